pub mod ShutOut
pub mod Muted
