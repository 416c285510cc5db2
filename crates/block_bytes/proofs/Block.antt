-- A block of a reply: its bytes and its length.
use mathlib.Core.Path.{◌≡◌, refl, ap, ◌∙◌}
use mathlib.Core.Bool.{Bool, true, false}
use mathlib.Core.List.{List, ◌∷◌}
use Prim.Native.Nat.{ℕ, suc, ◌*◌, ◌≤◌}
use native.Mathlib.Omega.{arith}
use lib.ListN.{length}
use Rattle.parts.specs.Pick.{pick}
use Rattle.parts.specs.Bytes.{bytes_at}
use Rattle.parts.proofs.Lists.{length_bytes_at}
use Rattle.registers.specs.declared.Registers.{Registers}
use Rattle.block_status.specs.Status.{status_of}
use Rattle.block_bytes.specs.Block.{block_of}

module _ (r : Registers) (session : ℕ) where
  module _ (m : List ℕ) where
    -- a block with the option, and without
    pub block_with : (option : Bool) (block : ℕ) → option ≡ true
        → block_of r session m option block ≡ status_of r session block ∷ bytes_at m (4 * block) 4
    unfolding block_of pick
    block_with option block h = rw h

    pub block_plain : (option : Bool) (block : ℕ) → option ≡ false → block_of r session m option block ≡ bytes_at m (4 * block) 4
    unfolding block_of pick
    block_plain option block h = rw h

    pub length_with : (option : Bool) (block : ℕ) → option ≡ true → length (block_of r session m option block) ≡ 5
    length_with option block h =
        ap length (block_with option block h) ∙ ap suc (length_bytes_at m (4 * block) 4)

    pub length_plain : (option : Bool) (block : ℕ) → option ≡ false → length (block_of r session m option block) ≡ 4
    length_plain option block h = ap length (block_plain option block h) ∙ length_bytes_at m (4 * block) 4

    pub block_le : (option : Bool) (block : ℕ) → length (block_of r session m option block) ≤ 5
    block_le true block = omega (arith, length_with true block refl)
    block_le false block = omega (arith, length_plain false block refl)
