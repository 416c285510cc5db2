-- What the crates above take of the crates below, so that each has to list few.
pub use Rattle.ranges.proofs.AirKept.{field_kept}
pub use Rattle.ranges.proofs.Fresh.{fresh_in_range}
