-- What the crates above take of the crates below, so that each has to list few.
unfoldable pub use Rattle.rights.specs.Rights.{is_locked, may_write, write_right}
pub use Rattle.rights.specs.declared.Side.TheVariants.{Radio, Wire}
unfoldable pub use Rattle.write_rules.specs.Situation.{block_place, password_place, pointer_place}
pub use Rattle.write_rules.specs.Situation.{block_situation, password_situation, pointer_situation, situation_of}
unfoldable pub use Rattle.write_rules.specs.Verdict.{write_verdict}
