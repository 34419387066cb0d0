pub mod Blocks
pub mod Filled
