pub mod Search
pub mod Range
