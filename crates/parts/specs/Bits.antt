-- Bits of a byte.
use Rattle.std.specs.Prelude.{Bool, ℕ, ◌/◌, ◌%◌, ◌^◌, eqb}

-- the bit of weight n is set in x
abbrev pub is_set : ℕ → ℕ → Bool
is_set n x = eqb (x / n % 2) 1

-- the n lowest bits of x, the others 0
abbrev pub keep_bits : ℕ → ℕ → ℕ
keep_bits n x = x % 2 ^ n
