pub mod Undone
pub mod Lists
pub mod Books
