-- Lines of the example program's script, and what it does with them.
use Rattle.std.specs.Prelude.{◌≡◌, List, [], ◌∷◌, ◌++◌, ℕ, ◌+◌, ◌≤◌, min, length, take, drop, codes}
use Rattle.text.specs.Decimal.{decimal}
use Rattle.lines.specs.Line.{line_length}
use Rattle.keys.specs.declared.Uid.{Uid}

-- the first n bytes of s lie within it, and are n
abbrev pub IsPrefixLen : ℕ → List ℕ → Type 0
IsPrefixLen n s = (n ≤ length s) × (n ≡ length (take n s))

-- the UID of the examples' tags
abbrev pub example_uid : Uid
example_uid = record { bytes = 0x01 ∷ 0x02 ∷ 0x03 ∷ 0x04 ∷ 0x05 ∷ 0x24 ∷ 0x02 ∷ 0xE0 ∷ [] }

-- the line that starts at a place of a script
abbrev pub script_line : List ℕ → ℕ → List ℕ
script_line s at = take (line_length (drop at s)) (drop at s)

-- where the line after it starts, past its line feed if it has one
abbrev pub next_at : List ℕ → ℕ → ℕ
next_at s at = min (at + line_length (drop at s) + 1) (length s)

-- what stands before a line's answer
abbrev pub number_text : ℕ → List ℕ
number_text n = decimal n ++ 9 ∷ []

-- what standard error gets where a script fills its buffer, and where a line cannot be written
abbrev pub too_long_message : List ℕ
too_long_message = codes "the script is too long" ++ 10 ∷ []

abbrev pub cannot_write_message : List ℕ
cannot_write_message = codes "cannot write the output" ++ 10 ∷ []
