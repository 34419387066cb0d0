pub mod Saved
pub mod Shape
pub mod Layer
pub mod Test
