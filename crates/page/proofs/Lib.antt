pub mod Acks
pub mod User
pub mod Passed
