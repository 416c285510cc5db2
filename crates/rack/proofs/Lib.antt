pub mod Parts
pub mod Fits
pub mod Kept
pub mod Report
pub mod Claims
pub mod Unread
pub mod Passed
