pub mod Generators
pub mod Published
pub mod Conjugation
pub mod Repeated
