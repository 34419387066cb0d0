-- What the sheet of a whole book says, and what its refusals leave.
pub mod Books
pub mod Refusals
