pub mod Radio
pub mod Claims
pub mod Passed
