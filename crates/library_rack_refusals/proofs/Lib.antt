pub mod Loops
pub mod Sizes
pub mod Claims
