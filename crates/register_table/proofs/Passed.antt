-- What the crates above take of the crates below, so that each has to list few.
pub use Rattle.parts.proofs.Bools.{and_left, and_right, or_cases, or_first}
pub use Rattle.parts.proofs.Picks.{picks}
