pub mod TextLaws
pub mod Marks
pub mod Plain
