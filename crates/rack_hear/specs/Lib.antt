pub mod Hear
pub mod Claims
pub mod Passed
