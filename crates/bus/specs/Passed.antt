-- What the crates above take of the crates below, so that each has to list few.
unfoldable pub use Rattle.register_types.specs.Passed.{pick}
