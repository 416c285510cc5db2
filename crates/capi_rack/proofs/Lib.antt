pub mod Racks
pub mod Masking
pub mod Says
pub mod Unrefused
pub mod Calls
pub mod Keeps
