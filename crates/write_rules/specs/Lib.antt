pub mod Situation
pub mod Conditions
pub mod Verdict
pub mod Edges
pub mod Claims
pub mod Passed
