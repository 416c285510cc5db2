-- What is proved of what a line says, beside the functions' contracts.
use Rattle.std.specs.Prelude.{◌≡◌, List, ℕ, ◌<◌, take}
use Rattle.reading.specs.Line.{longest}
use Rattle.rack_reading.specs.Line.{rack_line_of}

-- of a line that is too long 1,201 characters tell, or more of them: it is bad either way
abbrev pub RackLineCut : Type 0
RackLineCut = (n : ℕ) → longest < n → (s : List ℕ) → rack_line_of (take n s) ≡ rack_line_of s
