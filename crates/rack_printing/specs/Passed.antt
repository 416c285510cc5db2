-- What the crates above take of the crates below, so that each has to list few.
unfoldable pub use Rattle.printing.specs.Text.{answer_text, line_text}
pub use Rattle.printing.specs.Text.{bad_text}
