pub mod Operation
pub mod Gate
pub mod Error
pub mod Repeated
