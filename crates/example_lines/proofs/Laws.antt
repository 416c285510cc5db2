-- Lengths of lines. Assumes nothing.
use mathlib.Core.Path.{◌≡◌, refl}
use mathlib.Core.List.{List, []}
use Prim.Native.Nat.{ℕ, zero, suc, ◌≤◌, ◌-◌}
use native.Mathlib.Omega.{arith}
use lib.ListN.{length, take, drop, length-drop, drop_of_length-le}
use Rattle.lines.specs.Line.{line_length}
use Rattle.example_lines.specs.Lines.{script_line}
use Rattle.lines.proofs.Scan.{line_le}

-- a line ends within its script
pub line_within : (s : List ℕ) (at : ℕ) → line_length (drop at s) ≤ length s - at
line_within s at = omega (arith, line_le (drop at s), length-drop at s)

take_nothing : (n : ℕ) → ◌≡◌ {A = List ℕ} (take n []) []
take_nothing zero = refl
take_nothing (suc n) = refl

-- past the end there is no byte
pub no_line : (s : List ℕ) (at : ℕ) → length s ≤ at → script_line s at ≡ []
no_line s at h = rw (drop_of_length-le s {i = at} h) (take_nothing (line_length []))
