pub mod PlaceLaws
pub mod DecimalLaws
