pub mod Xor
pub mod Linear
pub mod Table
pub mod Nibbles
pub mod Run
pub mod Frames
pub mod Below
pub mod Example
