pub mod Computes
pub mod Wrong
