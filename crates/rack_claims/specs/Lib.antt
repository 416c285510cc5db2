pub mod Cut
pub mod ItsTags
pub mod Demand3
pub mod Passed
