pub mod Password
pub mod Claims
