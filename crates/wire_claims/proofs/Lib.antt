pub mod Page
pub mod Cases
pub mod Kept
pub mod Line
pub mod Bytes
pub mod Passed
