-- What the crates above take of the crates below, so that each has to list few.
pub use Rattle.demand3.proofs.Passed.{step_room}
pub use Rattle.rack.proofs.Passed.{Fits, acted, acted_by, call_is, found, refusal}
unfoldable pub use Rattle.rack.proofs.Fits.{AllFit}
pub use Rattle.rack.proofs.Fits.{fit_of}
pub use Rattle.rack.proofs.Kept.{call_leaves, call_says}
