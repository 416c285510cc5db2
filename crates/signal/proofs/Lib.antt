pub mod Settle
pub mod Ended
