-- Laws of the layout and of the tests of shape, and that the tests of validity are exact.
pub mod Rows
pub mod Shape
pub mod Exactly
