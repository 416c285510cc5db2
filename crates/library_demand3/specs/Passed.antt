-- What the crates above take of the crates below, so that each has to list few.
pub use Rattle.capi.specs.Interface.{CallResult, call_result}
unfoldable pub use Rattle.capi.specs.Interface.{answer_number}
