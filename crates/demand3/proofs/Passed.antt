-- What the crates above take of the crates below, so that each has to list few.
pub use Rattle.waiting.proofs.Passed.{room_of, step_room}
