pub mod TextLaws
pub mod Passed
