-- Worked cases, and what passes the checks of a look.
pub mod Cases
pub mod Passes
