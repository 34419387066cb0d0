pub mod LastByte
pub mod Ready
