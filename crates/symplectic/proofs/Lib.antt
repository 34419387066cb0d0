pub mod Triangle
pub mod Pairing
pub mod Map
pub mod Gates
