-- What the crates above take of the crates below, so that each has to list few.
pub use Rattle.register_table.proofs.Rows.{row_test}
