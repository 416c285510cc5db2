-- Blocks of a reply: their lengths, and one more of them.
use mathlib.Core.Path.{◌≡◌, ap, ◌∙◌}
use mathlib.Core.Bool.{Bool}
use mathlib.Core.List.{List, ◌++◌}
use Prim.Native.Nat.{ℕ, zero, suc, ◌+◌, ◌*◌, ◌≤◌}
use native.Mathlib.Omega.{arith}
use native.Mathlib.Numerals.{add-one}
use lib.ListN.{length, length-append}
use Rattle.registers.specs.declared.Registers.{Registers}
use Rattle.block_bytes.specs.Block.{block_of}
use Rattle.block_bytes.proofs.Block.{block_le}
use Rattle.blocks.specs.Blocks.{blocks_of}

module _ (r : Registers) (session : ℕ) where
  module _ (m : List ℕ) where
    pub blocks_more : (option : Bool) (first n : ℕ)
        → blocks_of r session m option first (n + 1) ≡ blocks_of r session m option first n ++ block_of r session m option (first + n)
    unfolding blocks_of
    blocks_more option first n = rw (add-one n)

    pub blocks_length : (option : Bool) (first n : ℕ)
        → length (blocks_of r session m option first (n + 1))
        ≡ length (blocks_of r session m option first n) + length (block_of r session m option (first + n))
    blocks_length option first n =
        ap length (blocks_more option first n)
        ∙ length-append (blocks_of r session m option first n) (block_of r session m option (first + n))

    pub blocks_le : (option : Bool) (first n : ℕ) → length (blocks_of r session m option first n) ≤ 5 * n
    unfolding blocks_of
    blocks_le option first zero = omega arith
    blocks_le option first (suc n) =
        omega (
          arith,
          blocks_le option first n,
          block_le r session m option (first + n),
          length-append (blocks_of r session m option first n) (block_of r session m option (first + n)),
        )
