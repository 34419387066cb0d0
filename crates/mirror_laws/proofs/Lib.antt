-- What undoes a gate; a list and its mirror; whole books; the mirror of the mirror.
pub mod Undone
pub mod Lists
pub mod Books
pub mod Twice
