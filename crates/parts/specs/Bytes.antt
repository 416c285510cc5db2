-- Runs of bytes, for every place and every length: a byte past the end reads 0, and a store past the end changes nothing.
-- One byte read is the library's `get_or s i 0`, one stored its `set m i b`, a run stored its `sets m at bs`.
use Rattle.std.specs.Prelude.{Bool, true, ◌&&◌, List, [], ◌∷◌, ◌++◌, ℕ, zero, suc, ◌+◌, ltb, eqb, get_or, set}

-- the n bytes of s from place `at` on
unfoldable pub bytes_at : List ℕ → ℕ → ℕ → List ℕ
bytes_at s at zero = []
bytes_at s at (suc n) = bytes_at s at n ++ get_or s (at + n) 0 ∷ []

-- m after its n bytes from place `from` on were copied to place `to` on, one by one, the lowest first
unfoldable pub copied : List ℕ → ℕ → ℕ → ℕ → List ℕ
copied m to from zero = m
copied m to from (suc n) = set (copied m to from n) (to + n) (get_or (copied m to from n) (from + n) 0)

-- the first n bytes of s and of the other list are the same
unfoldable pub agree : ℕ → List ℕ → List ℕ → Bool
agree zero s other = true
agree (suc n) s other = agree n s other && eqb (get_or s n 0) (get_or other n 0)

-- every number of a list is a byte
unfoldable pub are_bytes : List ℕ → Bool
are_bytes [] = true
are_bytes (x ∷ s) = ltb x 256 && are_bytes s
