pub mod Interface
pub mod Claims
