pub mod Acts
pub mod Kept
pub mod Served
pub mod Room
pub mod Passed
