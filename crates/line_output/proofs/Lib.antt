pub mod Said
pub mod Ended
pub mod Fed
