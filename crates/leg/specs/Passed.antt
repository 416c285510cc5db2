-- What the crates above take of the crates below, so that each has to list few.
unfoldable pub use Rattle.user_leg.specs.UserLeg.{user_written}
unfoldable pub use Rattle.system_leg.specs.SystemLeg.{password_written, system_written}
