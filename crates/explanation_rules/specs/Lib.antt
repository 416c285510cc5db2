pub mod Conditions
pub mod Explanation
pub mod Numbers
