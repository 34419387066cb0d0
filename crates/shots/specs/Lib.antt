pub mod Shots
pub mod Clean
