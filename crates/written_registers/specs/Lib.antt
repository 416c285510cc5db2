pub mod Written
pub mod Passed
