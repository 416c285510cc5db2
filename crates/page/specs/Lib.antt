pub mod PageRange
pub mod Passed
