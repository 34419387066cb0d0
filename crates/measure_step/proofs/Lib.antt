-- What the proof of `measure` and those of the runs use.
pub mod Fits
pub mod Looked
pub mod Room
pub mod Supply
