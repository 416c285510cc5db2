pub mod UserLeg
