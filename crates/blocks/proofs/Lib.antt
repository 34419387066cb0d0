-- What the blocks rest on.
pub mod Assignment
pub mod Rows
pub mod Filling
