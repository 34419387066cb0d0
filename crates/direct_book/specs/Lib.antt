pub mod DirectBook
pub mod GoOn
pub mod Passes
