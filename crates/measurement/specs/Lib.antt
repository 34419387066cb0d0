pub mod Look
pub mod Collapse
