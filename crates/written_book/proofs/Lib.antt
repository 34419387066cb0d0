-- Worked cases; what the reader tells of a book that is made of its bodies; that it is the only one; what the writer leaves.
pub mod Cases
pub mod Read
pub mod Parts
pub mod Only
pub mod Writer
pub mod Errorless
