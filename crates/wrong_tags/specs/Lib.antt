pub mod Told
pub mod Wrong
pub mod RepeatedStart
pub mod Pinned
