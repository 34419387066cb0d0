-- Laws of circuits; worked cases.
pub mod Gates
pub mod Cases
