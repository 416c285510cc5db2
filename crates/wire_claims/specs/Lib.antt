pub mod Claims
pub mod Passed
