pub mod EveryCommand
pub mod ShutOut
pub mod Kept
pub mod Room
