pub mod Kept
pub mod Calls
pub mod Claim
pub mod Follows
pub mod Wrong
pub mod Passed
