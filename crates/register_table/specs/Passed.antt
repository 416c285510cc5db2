-- What the crates above take of the crates below, so that each has to list few.
unfoldable pub use Rattle.parts.specs.Pick.{pick}
pub use Rattle.register_types.specs.Types.{end_a}
pub use Rattle.register_types.specs.declared.EndA.{EndA}
