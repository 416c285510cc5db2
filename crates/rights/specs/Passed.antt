-- What the crates above take of the crates below, so that each has to list few.
unfoldable pub use Rattle.registers.specs.Map.{put_defined, register_bytes, with_end, written, written_to}
pub use Rattle.registers.specs.Map.{registers_of}
unfoldable pub use Rattle.areas.specs.Ends.{area_of_block, area_of_byte, end_accepted, end_allows, exceeds_before, later_largest}
