-- What the crates above take of the crates below, so that each has to list few.
pub use Rattle.model.proofs.Passed.{closed_counted, counted_stays, signal_case, end_of_frame_shut, not_refused}
unfoldable pub use Rattle.model.proofs.Passed.{applies_of}
pub use Rattle.model.proofs.Acts.{room_of}
pub use Rattle.model.proofs.Room.{step_room}
pub use Rattle.model.proofs.Served.{act_served}
