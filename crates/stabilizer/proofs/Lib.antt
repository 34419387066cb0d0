pub mod Span
pub mod Basis
pub mod Product
pub mod Member
pub mod Kept
pub mod Collapse
pub mod Image
pub mod Bridge
