pub mod OneCall
pub mod Struck
pub mod Demand3
pub mod Passed
