-- Laws of the sheet's bytes, and worked cases.
pub mod Bytes
mod Cases
