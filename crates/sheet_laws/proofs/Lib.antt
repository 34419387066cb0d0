-- The linear law by kinds of operation, and what the sheet says.
pub mod Linear
pub mod Lists
