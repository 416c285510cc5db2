pub mod Alone
pub mod ItsTags
pub mod WellFormed
pub mod Demand3
pub mod Report
pub mod Passed
