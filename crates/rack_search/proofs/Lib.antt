pub mod Sent
pub mod Count
pub mod OneTag
pub mod Slots
pub mod Search
pub mod Passed
