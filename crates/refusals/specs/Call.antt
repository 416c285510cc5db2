-- What a call hands in beside the tag and its memory.
use Rattle.std.specs.Prelude.{List, ℕ}

-- a reply buffer, a signal's code and value, a frame
pub record Call : Type 0 where
  pub buffer : List ℕ
  pub code : ℕ
  pub value : ℕ
  pub frame : List ℕ

abbrev pub handed_in : List ℕ → ℕ → ℕ → List ℕ → Call
handed_in o code value f = record { buffer = o; code = code; value = value; frame = f }
