pub mod FreeMeasurement
pub mod Changing
pub mod Clearing
