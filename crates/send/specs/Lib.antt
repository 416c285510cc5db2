pub mod Send
pub mod Passed
