-- What the crates above take of the crates below, so that each has to list few.
pub use Rattle.rack_search.proofs.Passed.{Formed, answers_as_waiting, call_rules, formed, formed_judged, frames_own, is_its_tags, keeps_well_formed, next_formed, only_radio_reported}
pub use Rattle.rack_search.proofs.Search.{searches}
