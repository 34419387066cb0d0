-- Worked cases; demand 3 and the verdict for whole books, what refusals leave, and what runs leave.
pub mod Cases
pub mod Left
pub mod Second
pub mod Demand3
pub mod Clean
pub mod WithoutErrors
pub mod Refusals
pub mod LeavesValid
pub mod Tray
