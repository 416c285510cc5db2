pub mod Writes
pub mod Claims
