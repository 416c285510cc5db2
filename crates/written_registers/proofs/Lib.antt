pub mod Registers
pub mod Passed
