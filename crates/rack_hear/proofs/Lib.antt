pub mod Acts
pub mod More
pub mod Claims
