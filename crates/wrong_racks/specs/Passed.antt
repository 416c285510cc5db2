-- What the crates above take of the crates below, so that each has to list few.
pub use Rattle.rack_search.specs.Passed.{JudgedCall, answers_alone, own_of, waits_for}
unfoldable pub use Rattle.rack_search.specs.Passed.{answers_made, judged_calls, of_each, rack_frames_fit, stand_in}
pub use Rattle.rack_search.specs.Claims.{FirstCollision, NoCollisions, sent_by}
unfoldable pub use Rattle.rack_search.specs.Claims.{buffer_after, sent_calls, slots_opened}
pub use Rattle.rack_search.specs.Search.{search_entry, search_rules, sends_frame, sends_next}
pub use Rattle.rack_search.specs.Search.{SearchAnswer}
