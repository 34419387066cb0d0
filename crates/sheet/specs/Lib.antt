pub mod Weights
pub mod SheetBook
