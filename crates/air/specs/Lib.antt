pub mod Parts
pub mod Radio
