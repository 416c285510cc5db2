-- A text in a lent buffer, and the place behind it.
use Rattle.std.specs.Prelude.{List, ℕ, ◌+◌, min, length}
use Rattle.std.proofs.lemmas.List.Edits.{sets}

pub record Stored : Type 0 where
  pub next : ℕ
  pub buffer : List ℕ

abbrev pub stored : ℕ → List ℕ → Stored
stored n o = record { next = n; buffer = o }

-- a place has 64 bits; no buffer reaches the last one
abbrev pub last_place : ℕ
last_place = 18446744073709551615

-- the text stored in o from a place on: a character past the end of o is dropped, and the next place is at most the last one
abbrev pub text_at : List ℕ → ℕ → List ℕ → Stored
text_at o at text = stored (min (at + length text) last_place) (sets o at text)
