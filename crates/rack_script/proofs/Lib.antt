pub mod Stored
pub mod Fits
pub mod Said
