-- What the crates above take of the crates below, so that each has to list few.
pub use Rattle.parts.specs.Bits.{is_set}
unfoldable pub use Rattle.parts.specs.Pick.{pick}
