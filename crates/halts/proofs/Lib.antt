-- Worked cases, and laws of halting and going on.
pub mod Numbers
pub mod Stages
pub mod Goes
pub mod Kept
pub mod Progress
pub mod Worked
