-- Worked cases, and laws of the two runs' definitions.
pub mod Choices
pub mod Steps
pub mod Taken
pub mod Frames
pub mod Results
pub mod Shifts
pub mod Carry
pub mod Worked
pub mod Progress
