-- What the crates above take of the crates below, so that each has to list few.
unfoldable pub use Rattle.block_bytes.specs.Block.{block_of}
