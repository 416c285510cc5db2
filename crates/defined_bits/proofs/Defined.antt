-- Laws of "undefined register bits 0". Assumes nothing.
use mathlib.Core.Path.{◌≡◌, refl, sym, subst}
use mathlib.Core.Bool.{Bool, true, false}
use mathlib.Core.List.{List}
use Prim.Native.Nat.{ℕ, zero, suc, ◌%◌, ◌^◌, ◌<◌}
use native.Mathlib.Nat.{mod-mod}
use native.Mathlib.Omega.{arith}
use lib.Dec.{eqb, ltb}
use lib.ListN.{length, get_or, set}
use lib.Seq.{get_or-set_same, get_or-set_other, set_out}
use borrow.Author.Tests.{eq-eqb, eqb-true, eqb-false, ltb-true, ltb-false}
use Rattle.parts.specs.Bits.{keep_bits}
use Rattle.parts.proofs.Bools.{and_left, and_right, and_both}
use Rattle.register_table.specs.Table.{place_bits}
use Rattle.registers.specs.Map.{put_defined}
use Rattle.defined_bits.specs.Defined.{only_bits, defined_to}

-- kept bits are only those
pub only : (n b : ℕ) → only_bits n (keep_bits n b) ≡ true
only n b = eq-eqb (b % 2 ^ n % 2 ^ n) (b % 2 ^ n) (mod-mod b (2 ^ n))

-- ---- a byte put at a place keeps "undefined register bits 0"
module _ (p x : ℕ) (s : List ℕ) where
  abbrev Only : ℕ → List ℕ → Type 0
  Only i l = only_bits (get_or place_bits i 0) (get_or l i 0) ≡ true

  -- at that place, if there is one
  put_there : Only p s → Only p (put_defined p x s)
  unfolding put_defined
  put_there h = go (ltb p (length s)) refl
    where
      y : ℕ
      y = keep_bits (get_or place_bits p 0) x

      go : (b : Bool) → ltb p (length s) ≡ b → Only p (set s p y)
      go true t = rw (get_or-set_same s p y 0 (ltb-true p (length s) t)) (only (get_or place_bits p 0) x)
      go false t = rw (set_out s p y (ltb-false p (length s) t)) h

  put_at_lem : (i : ℕ) → Only i s → Only i (put_defined p x s)
  unfolding put_defined
  put_at_lem i h = go (eqb i p) refl
    where
      go : (b : Bool) → eqb i p ≡ b → Only i (put_defined p x s)
      go true t = subst (λ (j : ℕ). Only j (put_defined p x s)) (sym (eqb-true i p t)) (put_there (subst (λ (j : ℕ). Only j s) (eqb-true i p t) h))
      go false t = rw (get_or-set_other s p i (keep_bits (get_or place_bits p 0) x) 0 (eqb-false i p t)) h

  pub put_kept : (n : ℕ) → defined_to n s ≡ true → defined_to n (put_defined p x s) ≡ true
  unfolding defined_to
  put_kept zero h = refl
  put_kept (suc n) h =
      let t = only_bits (get_or place_bits n 0) (get_or s n 0) in
      and_both _ _ (put_kept n (and_left (defined_to n s) t h)) (put_at_lem n (and_right (defined_to n s) t h))

-- ---- the test of one place
pub defined_at : (n : ℕ) (s : List ℕ) → defined_to n s ≡ true → (i : ℕ) → i < n → only_bits (get_or place_bits i 0) (get_or s i 0) ≡ true
unfolding defined_to
defined_at zero s h i l = absurd (omega arith)
defined_at (suc n) s h i l = go (eqb i n) refl (λ below. defined_at n s (and_left (defined_to n s) (only_bits (get_or place_bits n 0) (get_or s n 0)) h) i below)
  where
    go : (b : Bool) → eqb i n ≡ b → (i < n → only_bits (get_or place_bits i 0) (get_or s i 0) ≡ true) → only_bits (get_or place_bits i 0) (get_or s i 0) ≡ true
    go true e lower =
        subst (λ (j : ℕ). only_bits (get_or place_bits j 0) (get_or s j 0) ≡ true) (sym (eqb-true i n e)) (and_right (defined_to n s) (only_bits (get_or place_bits n 0) (get_or s n 0)) h)
    go false e lower = lower (omega (arith, eqb-false i n e))
