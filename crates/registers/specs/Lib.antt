pub mod Map
pub mod Fresh
pub mod Passed
