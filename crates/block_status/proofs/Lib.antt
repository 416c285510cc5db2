pub mod Statuses
pub mod Cases
pub mod ByVerdict
