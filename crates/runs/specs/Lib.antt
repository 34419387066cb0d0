pub mod Run
pub mod Reached
pub mod Direct
pub mod Frame
pub mod Raised
pub mod Carry
