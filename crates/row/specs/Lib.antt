pub mod Row
pub mod Fill
pub mod Generators
pub mod Multiple
