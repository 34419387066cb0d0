-- Validity, demand 3 and the verdict over decoded lists.
pub mod Shift
pub mod Rows
pub mod Looks
pub mod Corrections
pub mod Reset
pub mod Books
pub mod Sound
pub mod Fold
pub mod Results
pub mod Window
pub mod Buffers
pub mod Verdict
pub mod Clean
pub mod NoErrors
