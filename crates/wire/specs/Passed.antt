-- What the crates above take of the crates below, so that each has to list few.
unfoldable pub use Rattle.signal.specs.Passed.{password_written, system_written, leg_written, settle}
pub use Rattle.signal.specs.Passed.{Due, clears, nothing_due, started, stopped, writes}
pub use Rattle.signal.specs.Signal.{WireResult, side_bus, side_line, wire_result}
unfoldable pub use Rattle.signal.specs.Signal.{due_of, start_at, start_of, stop_at}
pub use Rattle.signal.specs.declared.WireAnswer.TheVariants.{Nothing}
unfoldable pub use Rattle.send.specs.Passed.{data_of}
unfoldable pub use Rattle.send.specs.Send.{select_by, send_at}
