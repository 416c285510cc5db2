-- A line's bytes stored at the place that it names.
use Rattle.std.specs.Prelude.{Bool, true, false, List, ℕ, ◌+◌, ◌-◌, ltb, get_or, length}
use Rattle.std.proofs.lemmas.List.Edits.{sets}
use Rattle.parts.specs.Pick.{pick}
use Rattle.parts.specs.Bytes.{bytes_at}
use Rattle.select.specs.Select.{address}

-- two bytes from a place on, high first
abbrev pub word_at : List ℕ → ℕ → ℕ
word_at s i = address (get_or s i 0) (get_or s (i + 1) 0)

-- whether a line's bytes were taken, and the memory after it
pub record StoreResult : Type 0 where
  pub taken : Bool
  pub memory : List ℕ

abbrev pub store_result : Bool → List ℕ → StoreResult
store_result on m = record { taken = on; memory = m }

-- a line's bytes: two of a place, and those that lie in the memory from there on, all or none
unfoldable pub store_of : List ℕ → List ℕ → StoreResult
store_of m s =
    pick (ltb (length s) 2) (store_result false m)
    (pick (ltb (length m) (word_at s 0)) (store_result false m)
    (pick (ltb (length m - word_at s 0) (length s - 2)) (store_result false m)
    (store_result true (sets m (word_at s 0) (bytes_at s 2 (length s - 2))))))
