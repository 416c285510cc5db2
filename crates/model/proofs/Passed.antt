-- What the crates above take of the crates below, so that each has to list few.
pub use Rattle.wire_claims.proofs.Cases.{signal_case}
pub use Rattle.wire_claims.proofs.Line.{closed_counted, counted_stays}
pub use Rattle.radio.proofs.EveryCommand.{frame_behaves}
pub use Rattle.radio.proofs.Room.{end_fits, replies_fit}
pub use Rattle.radio.proofs.ShutOut.{end_of_frame_shut}
unfoldable pub use Rattle.refusals.proofs.Laws.{applies_of}
pub use Rattle.refusals.proofs.Laws.{judged_case, judged_map, not_refused}
pub use Rattle.refusals.proofs.Ranges.{range_parts}
