pub mod FrameBook
