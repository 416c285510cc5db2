-- What the crates above take of the crates below, so that each has to list few.
pub use Rattle.calls.proofs.Laws.{Fits, acted, acted_by, call_case, call_is, found, refusal}
