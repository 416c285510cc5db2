-- A line of a script: a letter alone, or a letter, a tab, and 0, 1 or bytes in hex.
use Rattle.std.specs.Prelude.{Bool, ◌&&◌, ◌||◌, List, [], ◌∷◌, ℕ, suc, ◌%◌, eqb, leb, get_or, length, drop}
use Rattle.parts.specs.Pick.{pick}
use Rattle.hexadecimal.specs.Hex.{all_hex}

-- the bytes before the first line feed, counted
unfoldable pub line_length : List ℕ → ℕ
line_length [] = 0
line_length (x ∷ s) = pick (eqb x 10) 0 (suc (line_length s))

-- 0 or 1 behind the tab
abbrev pub is_level : List ℕ → Bool
is_level s = eqb (length s) 3 && eqb (get_or s 1 0) 9 && (eqb (get_or s 2 0) 48 || eqb (get_or s 2 0) 49)

-- bytes in hex behind the tab, one at least
unfoldable pub has_bytes : List ℕ → Bool
has_bytes s = leb 4 (length s) && eqb (length s % 2) 0 && eqb (get_or s 1 0) 9 && all_hex (drop 2 s)
