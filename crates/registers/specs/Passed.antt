-- What the crates above take of the crates below, so that each has to list few.
unfoldable pub use Rattle.parts.specs.Bytes.{bytes_at}
unfoldable pub use Rattle.parts.specs.Pick.{pick}
