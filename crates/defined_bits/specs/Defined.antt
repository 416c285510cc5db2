-- "undefined register bits 0".
use Rattle.std.specs.Prelude.{Bool, true, ◌&&◌, List, ℕ, zero, suc, eqb, get_or}
use Rattle.parts.specs.Bits.{keep_bits}
use Rattle.register_table.specs.Table.{register_count, place_bits}
use Rattle.registers.specs.declared.Registers.{Registers}
use Rattle.registers.specs.Map.{register_bytes}

-- "undefined register bits 0": none of x's bits is set but the n lowest
abbrev pub only_bits : ℕ → ℕ → Bool
only_bits n x = eqb (keep_bits n x) x

-- of the bytes at the first n places
unfoldable pub defined_to : ℕ → List ℕ → Bool
defined_to zero s = true
defined_to (suc n) s = defined_to n s && only_bits (get_or place_bits n 0) (get_or s n 0)

-- of all registers, RF_MNGT_Dyn among them
unfoldable pub defined_only : Registers → Bool
defined_only r = defined_to register_count (register_bytes r)
