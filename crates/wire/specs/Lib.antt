pub mod Wire
pub mod Passed
