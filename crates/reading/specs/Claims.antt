-- What is proved of what a line says, beside the functions' contracts.
use Rattle.std.specs.Prelude.{◌≡◌, List, ℕ, ◌<◌, take}
use Rattle.reading.specs.Line.{longest, line_of}

-- of a line that is too long 1,201 characters tell, or more of them: it is bad either way
abbrev pub LineCut : Type 0
LineCut = (n : ℕ) → longest < n → (s : List ℕ) → line_of (take n s) ≡ line_of s
