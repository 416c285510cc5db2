pub mod Frames
pub mod Transfers
pub mod Demand2
pub mod RepeatedStart
