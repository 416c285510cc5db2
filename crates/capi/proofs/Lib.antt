pub mod Unrefused
pub mod Refusals
pub mod Tags
pub mod Calls
