pub mod NumberLaws
pub mod UidLaws
pub mod LineLaws
