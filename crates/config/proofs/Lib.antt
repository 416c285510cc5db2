pub mod Cases
pub mod ByVerdict
