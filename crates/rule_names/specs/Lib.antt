pub mod Rules
pub mod Names
pub mod Text
pub mod Claims
