-- Worked cases; what the proofs of several functions use; the reader's answers by cases; what an accepted book means, and hands to a run; where the entries of a circuit lie; books with other choices.
pub mod Cases
pub mod Contents
pub mod Answers
pub mod Lists
pub mod GoodErrors
pub mod Meaning
pub mod Handed
pub mod Circuits
pub mod Rechosen
