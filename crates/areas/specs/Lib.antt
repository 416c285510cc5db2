pub mod Ends
pub mod Claims
