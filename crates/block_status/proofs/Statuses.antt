-- Statuses of a reply: one more of them, and their length.
use mathlib.Core.Path.{◌≡◌, refl}
use mathlib.Core.List.{[], ◌∷◌, ◌++◌}
use Prim.Native.Nat.{ℕ, zero, suc, ◌+◌, ◌-◌, ◌≤◌, min}
use native.Mathlib.Omega.{arith}
use native.Mathlib.Numerals.{add-one}
use lib.Dec.{ltb}
use lib.ListN.{length, length-append}
use borrow.Author.Tests.{ltb-true, ltb-false}
use Rattle.parts.specs.Pick.{pick}
use Rattle.parts.proofs.Picks.{pick_case}
use Rattle.registers.specs.declared.Registers.{Registers}
use Rattle.block_status.specs.Status.{status_of, statuses_of}

-- the lesser of two
pub lesser : (a b : ℕ) → pick (ltb a b) a b ≡ min a b
lesser a b = pick_case (λ (n : ℕ). n ≡ min a b) _ _ _ (λ h. omega (arith, ltb-true a b h)) (λ h. omega (arith, ltb-false a b h))

-- "stops at block 127"
pub counted_le : (first more : ℕ) → pick (ltb (128 - first) (more + 1)) (128 - first) (more + 1) ≤ 128 - first
counted_le first more = pick_case (λ (n : ℕ). n ≤ 128 - first) _ _ _ (λ h. omega arith) (λ h. ltb-false (128 - first) (more + 1) h)

module _ (r : Registers) (session : ℕ) where
  pub statuses_more : (first n : ℕ) → statuses_of r session first (n + 1) ≡ statuses_of r session first n ++ status_of r session (first + n) ∷ []
  unfolding statuses_of
  statuses_more first n = rw (add-one n)

  pub length_statuses : (first n : ℕ) → length (statuses_of r session first n) ≡ n
  unfolding statuses_of
  length_statuses first zero = refl
  length_statuses first (suc n) =
      omega (
        arith,
        length_statuses first n,
        length-append (statuses_of r session first n) (status_of r session (first + n) ∷ []),
      )
