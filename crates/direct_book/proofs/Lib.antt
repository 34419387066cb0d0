-- Worked cases, and what the tests behind 1 to 9 say of a call.
pub mod Cases
pub mod Tested
