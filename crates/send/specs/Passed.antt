-- What the crates above take of the crates below, so that each has to list few.
unfoldable pub use Rattle.data_byte.specs.DataByte.{data_of}
