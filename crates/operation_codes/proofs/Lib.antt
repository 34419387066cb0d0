-- The codes of the nine operations.
pub mod Codes
