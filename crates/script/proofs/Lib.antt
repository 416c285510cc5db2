pub mod Fits
pub mod OnlyBad
pub mod Tells
