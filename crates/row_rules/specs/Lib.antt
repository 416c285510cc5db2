pub mod RowErrors
pub mod Claims
