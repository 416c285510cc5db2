pub mod States
pub mod Decoding
pub mod Stored
pub mod Encoding
