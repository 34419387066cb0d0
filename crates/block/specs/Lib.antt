pub mod Carried
pub mod Clean
pub mod Block
