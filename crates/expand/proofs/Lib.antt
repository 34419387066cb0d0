-- What is proved of shots that have errors, of bytes put into a list, and of rows moved to their places.
pub mod Noisy
pub mod Bytes
pub mod Places
