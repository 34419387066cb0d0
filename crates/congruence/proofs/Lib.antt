pub mod Congruence
pub mod Sum
