pub mod Errors
pub mod Entry
pub mod Status
