pub mod Frames
pub mod Bytes
