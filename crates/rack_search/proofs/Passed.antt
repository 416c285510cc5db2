-- What the crates above take of the crates below, so that each has to list few.
pub use Rattle.rack_claims.proofs.Demand3.{answers_as_waiting, frames_own}
pub use Rattle.rack_claims.proofs.ItsTags.{is_its_tags}
pub use Rattle.rack_claims.proofs.Report.{only_radio_reported}
pub use Rattle.rack_claims.proofs.WellFormed.{Formed, call_rules, formed, formed_judged, keeps_well_formed, next_formed}
