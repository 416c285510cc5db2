pub mod Uids
pub mod Ranges
pub mod Count
pub mod Rules
pub mod Passed
