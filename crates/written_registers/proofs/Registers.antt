-- Registers written one after the other. Assumes nothing.
use mathlib.Core.Path.{◌≡◌, sym, ap, ◌∙◌}
use mathlib.Core.List.{List, [], ◌∷◌, ◌++◌}
use Prim.Native.Nat.{ℕ, ◌+◌}
use native.Mathlib.Nat.{add-zero}
use native.Mathlib.Omega.{arith}
use lib.ListN.{length}
use Rattle.registers.specs.declared.Registers.{Registers}
use Rattle.registers.specs.Map.{written}
use Rattle.written_registers.specs.Written.{written_all}

-- one byte more
pub written_snoc : (xs : List ℕ) (r : Registers) (f x : ℕ) → written_all r f (xs ++ x ∷ []) ≡ written (written_all r f xs) (f + length xs) x
unfolding written_all
written_snoc [] r f x = ap (λ (a : ℕ). written r a x) (sym (add-zero f))
written_snoc (y ∷ xs) r f x =
    written_snoc xs (written r f y) (f + 1) x ∙ ap (λ (a : ℕ). written (written_all (written r f y) (f + 1) xs) a x) (omega arith)
