pub mod Layout
pub mod Parts
pub mod Supply
pub mod Passed
