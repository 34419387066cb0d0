-- Laws of the operations and errors, and worked cases.
pub mod Cases
pub mod Operands
pub mod Stores
pub mod Gate
pub mod Error
