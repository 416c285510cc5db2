-- The registers that a leg writes.
use Rattle.std.specs.Prelude.{List, [], ◌∷◌, ℕ, ◌+◌}
use Rattle.registers.specs.declared.Registers.{Registers}
use Rattle.registers.specs.Map.{written}

-- the registers after bytes from a first address on were written, the lowest first
unfoldable pub written_all : Registers → ℕ → List ℕ → Registers
written_all r first [] = r
written_all r first (x ∷ bytes) = written_all (written r first x) (first + 1) bytes
