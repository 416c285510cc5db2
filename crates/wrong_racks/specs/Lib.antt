pub mod Told
pub mod Wrong
pub mod WrongSearch
pub mod Passed
