pub mod Bus
pub mod Passed
