pub mod Steps
pub mod Held
pub mod Turn
pub mod Flow
pub mod Claim
pub mod Going
pub mod Examples
