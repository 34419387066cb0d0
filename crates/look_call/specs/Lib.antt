pub mod LookBytes
