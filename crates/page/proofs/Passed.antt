-- What the crates above take of the crates below, so that each has to list few.
pub use Rattle.rule.proofs.AckedByte.{acked_room, acked_space}
