pub mod RuleList
pub mod Claims
