-- What the block rests on.
pub mod Starting
pub mod Rows
