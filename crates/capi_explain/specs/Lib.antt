pub mod Explain
pub mod Claims
