pub mod Rack
pub mod Rules
pub mod Step
pub mod Claims
pub mod Passed
