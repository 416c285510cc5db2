-- What the crates above take of the crates below, so that each has to list few.
unfoldable pub use Rattle.rights.specs.Passed.{area_of_byte, end_allows}
unfoldable pub use Rattle.rights.specs.Rights.{may_write, wire_writes, write_right}
pub use Rattle.rights.specs.declared.Side.TheVariants.{Wire}
pub use Rattle.written_registers.specs.Passed.{Core, user_bytes}
unfoldable pub use Rattle.written_registers.specs.Written.{written_all}
