pub mod OpenStep
pub mod Lists
pub mod Frames
pub mod Follow
pub mod Passed
