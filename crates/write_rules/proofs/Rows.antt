-- What the table of registers says of writing. Assumes nothing.
use mathlib.Core.Path.{◌≡◌, refl, sym, subst}
use mathlib.Core.Bool.{Bool, true, false, not, ◌||◌, false≢true}
use Prim.Native.Nat.{ℕ}
use lib.Dec.{eqb}
use Rattle.written_registers.specs.Passed.{RegisterRow, no_place, row_of, is_writable, is_pointer}
use Rattle.written_registers.proofs.Passed.{row_test}
use Rattle.write_rules.specs.Situation.{is_system}

-- each register that A1 has a pointer to is writable
pub pointer_writable : (pointer : ℕ) → is_pointer pointer ≡ true → is_writable pointer ≡ true
pointer_writable pointer h =
    subst (λ (b : Bool). (not b || is_writable pointer) ≡ true) h (row_test (λ (row : RegisterRow). not row.radio || row.host) refl refl pointer)

-- what is not mapped is not writable
no_host : (b uid host : Bool) → (b || uid) ≡ false → (b || not host) ≡ true → host ≡ false
no_host true uid host h g = absurd (false≢true (sym h))
no_host false uid true h g = sym g
no_host false uid false h g = refl

pub unmapped_writable : (address : ℕ) → is_system address ≡ false → is_writable address ≡ false
unfolding is_system
unmapped_writable address h =
    no_host (not (eqb (row_of address).place no_place)) _ (is_writable address) h
    (row_test (λ (row : RegisterRow). not (eqb row.place no_place) || not row.host) refl refl address)
