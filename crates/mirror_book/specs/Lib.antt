pub mod Undoing
pub mod Mirrored
pub mod MirrorBook
