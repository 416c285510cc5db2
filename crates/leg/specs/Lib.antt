pub mod Leg
pub mod Passed
