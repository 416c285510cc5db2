pub mod Cases
pub mod Inside
pub mod ByVerdict
