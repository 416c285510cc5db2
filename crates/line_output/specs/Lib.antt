pub mod Answered
pub mod Messages
