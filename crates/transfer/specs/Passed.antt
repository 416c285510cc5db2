-- What the crates above take of the crates below, so that each has to list few.
unfoldable pub use Rattle.wire.specs.Passed.{data_of, select_by, send_at}
unfoldable pub use Rattle.wire.specs.Wire.{fetch_at, signal_of}
pub use Rattle.wire.specs.Wire.{programmed}
