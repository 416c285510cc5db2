pub mod UserRule
pub mod SystemRule
pub mod Rule
pub mod Claims
