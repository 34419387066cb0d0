-- Halting, going on and looking, for whole books.
pub mod Calls
pub mod Demand3
pub mod Looks
pub mod Foretold
