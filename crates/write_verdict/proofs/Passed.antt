-- What the crates above take of the crates below, so that each has to list few.
pub use Rattle.rights.proofs.Runs.{area_between, unlocked}
pub use Rattle.write_rules.proofs.Chain.{block_chain, password_number_chain, pointer_chain, radio_unmapped}
pub use Rattle.write_rules.proofs.Sides.{block_allowed}
