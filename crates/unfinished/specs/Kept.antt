-- What is kept of an unfinished line.
use Rattle.std.specs.Prelude.{List, ℕ, ◌+◌, ◌-◌, min, length, take}
use Rattle.std.proofs.lemmas.List.Edits.{sets}

-- of an unfinished line at most 1,201 bytes are kept: with so many it is bad and stays bad (docs/DECISIONS.md, D39)
abbrev pub kept_most : ℕ
kept_most = 1201

abbrev pub keep : List ℕ → List ℕ
keep held = take kept_most held

-- how many bytes are kept once s is added, where the first so many were; a number past the end is the end
abbrev pub kept_count : ℕ → List ℕ → ℕ
kept_count have s = min kept_most (min have kept_most + length s)

-- and the buffer that keeps them: as much of s as has room goes behind the bytes that were kept
abbrev pub kept_buffer : List ℕ → ℕ → List ℕ → List ℕ
kept_buffer o have s = sets o (min have kept_most) (take (kept_most - min have kept_most) s)
