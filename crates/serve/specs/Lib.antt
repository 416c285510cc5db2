pub mod Commands
pub mod Passed
