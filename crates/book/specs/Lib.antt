pub mod Book
pub mod Decoded
pub mod Circuits
