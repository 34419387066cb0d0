-- Worked cases, and what is proved of the definitions.
pub mod Cases
pub mod Clean
pub mod Same
pub mod Rows
pub mod Refusals
pub mod NoErrors
