pub mod Step
pub mod Claims
pub mod Passed
