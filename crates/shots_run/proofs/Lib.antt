-- What a tray run rests on.
pub mod CleanRun
pub mod Separate
