pub mod SystemLeg
