pub mod State
pub mod Step
pub mod Lines
pub mod Output
pub mod Flow
pub mod Claim
