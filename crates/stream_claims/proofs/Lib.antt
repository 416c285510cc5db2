pub mod Claim
pub mod Names
