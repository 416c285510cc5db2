pub mod Start
pub mod Passed
