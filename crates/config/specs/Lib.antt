pub mod Config
pub mod Claims
