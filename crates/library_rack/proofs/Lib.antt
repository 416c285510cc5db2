pub mod States
pub mod Runs
pub mod Claims
pub mod Search
pub mod Wrong
