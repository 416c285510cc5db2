pub mod Types
pub mod Passed
