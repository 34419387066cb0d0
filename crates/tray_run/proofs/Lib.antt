-- What the call rests on.
pub mod Ready
pub mod Books
