pub mod Part
pub mod Block
