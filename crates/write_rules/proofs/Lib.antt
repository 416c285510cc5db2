pub mod Rows
pub mod Chain
pub mod First
pub mod Sides
pub mod Edges
