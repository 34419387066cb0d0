pub mod Ready
pub mod CopyRun
