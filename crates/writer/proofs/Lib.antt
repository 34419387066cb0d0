-- What the proof of a function uses.
pub mod LaidOut
