pub mod Slot
pub mod Passed
