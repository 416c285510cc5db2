pub mod Laws
pub mod Computes
pub mod Passed
