pub mod Search
pub mod Claims
pub mod Passed
