-- What the crates above take of the crates below, so that each has to list few.
unfoldable pub use Rattle.leg.specs.Passed.{password_written, system_written}
pub use Rattle.leg.specs.Leg.{Due, clears, nothing_due, started, stopped, writes}
unfoldable pub use Rattle.leg.specs.Leg.{acts_at_start, leg_written, settle}
