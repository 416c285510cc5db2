-- The registers of a fresh tag.
use Rattle.std.specs.Prelude.{[], ◌∷◌}
use Rattle.registers.specs.declared.Registers.{Registers}
use Rattle.registers.specs.Map.{registers_of}

-- "Fresh tag: all .. registers .. 0, ends 0Fh": RF_MNGT, RF_MNGT_Dyn, RFA1SS, ENDA1, RFA2SS, ENDA2, RFA3SS, ENDA3, and all others 0
unfoldable pub fresh_registers : Registers
fresh_registers = registers_of (0 ∷ 0 ∷ 0 ∷ 0x0F ∷ 0 ∷ 0x0F ∷ 0 ∷ 0x0F ∷ [])
