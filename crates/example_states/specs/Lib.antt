pub mod Store
pub mod States
