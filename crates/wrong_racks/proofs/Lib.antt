pub mod Computes
pub mod Racks
pub mod Wrong
pub mod WrongSearch
pub mod Passed
