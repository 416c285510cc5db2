-- The lines of a list of bytes. A line is the bytes before a line feed (0Ah). A last line without line feed counts if it
-- has a byte (docs/DECISIONS.md, D38).
use Rattle.std.specs.Prelude.{List, [], ◌∷◌, ◌++◌, ℕ, eqb}
use Rattle.parts.specs.Pick.{pick}

-- the byte x before these lines: the first byte of the first of them, or a line by itself where the input ends
unfoldable pub byte_before : ℕ → List (List ℕ) → List (List ℕ)
byte_before x [] = (x ∷ []) ∷ []
byte_before x (s ∷ lines) = (x ∷ s) ∷ lines

unfoldable pub lines_of : List ℕ → List (List ℕ)
lines_of [] = []
lines_of (x ∷ s) = pick (eqb x 10) ([] ∷ lines_of s) (byte_before x (lines_of s))

-- the same of the lines that have their line feed: what follows the last line feed is no line yet
unfoldable pub byte_before_full : ℕ → List (List ℕ) → List (List ℕ)
byte_before_full x [] = []
byte_before_full x (s ∷ lines) = (x ∷ s) ∷ lines

unfoldable pub full_lines_of : List ℕ → List (List ℕ)
full_lines_of [] = []
full_lines_of (x ∷ s) = pick (eqb x 10) ([] ∷ full_lines_of s) (byte_before_full x (full_lines_of s))

-- the lines that have their line feed, where the bytes held stand before them
unfoldable pub bytes_before_full : List ℕ → List (List ℕ) → List (List ℕ)
bytes_before_full held [] = []
bytes_before_full held (s ∷ lines) = (held ++ s) ∷ lines
