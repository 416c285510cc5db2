-- What the crates above take of the crates below, so that each has to list few.
pub use Rattle.capi.proofs.Refusals.{number_refused}
pub use Rattle.capi.proofs.Tags.{decodes_length}
