pub mod Halt
