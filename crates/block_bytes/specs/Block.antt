-- A block in a reply.
use Rattle.std.specs.Prelude.{Bool, List, [], ◌∷◌, ◌++◌, ℕ, ◌*◌}
use Rattle.parts.specs.Pick.{pick}
use Rattle.parts.specs.Bytes.{bytes_at}
use Rattle.registers.specs.declared.Registers.{Registers}
use Rattle.block_status.specs.Status.{status_of}

-- a block as a read gives it: with the option its status byte, then its four bytes
unfoldable pub block_of : Registers → ℕ → List ℕ → Bool → ℕ → List ℕ
block_of r session m option block = pick option (status_of r session block ∷ []) [] ++ bytes_at m (4 * block) 4
