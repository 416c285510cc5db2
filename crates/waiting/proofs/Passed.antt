-- What the crates above take of the crates below, so that each has to list few.
pub use Rattle.calls.proofs.Passed.{closed_counted, counted_stays, act_served, room_of, step_room}
pub use Rattle.calls.proofs.Laws.{Fits, acted_by, call_case, first_fits, fits_next, found, rest_fits, supplied}
