-- Laws of the table of registers. Assumes nothing.
use mathlib.Core.Path.{◌≡◌, refl, ap, ◌∙◌}
use mathlib.Core.Bool.{Bool, true, ◌&&◌}
use mathlib.Core.List.{List, [], ◌∷◌, map}
use Prim.Native.Nat.{ℕ, zero, suc, ◌-◌, ◌^◌, ◌≤◌}
use native.Mathlib.Omega.{arith}
use lib.Bits.{bit_and, and_mask}
use lib.Dec.{eqb, leb}
use lib.ListN.{get_or, get_or-map}
use borrow.Author.Tests.{leb-true}
use Rattle.parts.specs.Bits.{keep_bits}
use Rattle.parts.proofs.Bools.{and_left, and_right}
use Rattle.parts.proofs.Picks.{pick_case}
use Rattle.register_table.specs.declared.RegisterRow.{RegisterRow}
use Rattle.register_table.specs.Table.{RegisterEntry, register_table, place_bits, no_row, row_in, row_of}

-- ---- a test of every entry
abbrev every_entry : (RegisterEntry → Bool) → List RegisterEntry → Bool
every_entry test [] = true
every_entry test (e ∷ es) = test e && every_entry test es

-- a test that every row passes, and the row where no register is, the row of an address passes
row_in_lem : (test : RegisterRow → Bool) (es : List RegisterEntry) → every_entry (λ (e : RegisterEntry). test e.row) es ≡ true → test no_row ≡ true → (a : ℕ) → test (row_in es a) ≡ true
unfolding row_in
row_in_lem test [] h n a = n
row_in_lem test (e ∷ es) h n a =
    pick_case (λ (row : RegisterRow). test row ≡ true) (eqb a e.address) _ _ (λ t. and_left (test e.row) _ h) (λ t. row_in_lem test es (and_right (test e.row) _ h) n a)

pub row_test : (test : RegisterRow → Bool) → every_entry (λ (e : RegisterEntry). test e.row) register_table ≡ true → test no_row ≡ true → (a : ℕ) → test (row_of a) ≡ true
unfolding row_of
row_test test h n a = row_in_lem test register_table h n a

-- ---- the defined bits by the places
-- the table is in the order of the places: each entry's bits are those of its place
pub at_places : every_entry (λ (e : RegisterEntry). eqb (get_or place_bits e.row.place 0) e.defined_bits) register_table ≡ true
unfolding place_bits
at_places = refl

abbrev all_at_most : ℕ → List ℕ → Bool
all_at_most n [] = true
all_at_most n (x ∷ s) = leb x n && all_at_most n s

at_most : (n : ℕ) (s : List ℕ) → all_at_most n s ≡ true → (i : ℕ) → get_or s i 0 ≤ n
at_most n [] h i = omega arith
at_most n (x ∷ s) h zero = leb-true x n (and_left (leb x n) (all_at_most n s) h)
at_most n (x ∷ s) h (suc i) = at_most n s (and_right (leb x n) (all_at_most n s) h) i

-- no register has more than eight
pub eight_bits : (place : ℕ) → get_or place_bits place 0 ≤ 8
unfolding place_bits
eight_bits place = at_most 8 place_bits refl place

-- a mask of n bits
abbrev pub mask_of : ℕ → ℕ
mask_of n = 2 ^ n - 1

-- a byte and the mask of its place
pub masked : (x place : ℕ) (masks : List ℕ) → masks ≡ map mask_of place_bits → bit_and x (get_or masks place 0) ≡ keep_bits (get_or place_bits place 0) x
masked x place masks e =
    ap (λ (s : List ℕ). bit_and x (get_or s place 0)) e
    ∙ ap (bit_and x) (get_or-map mask_of place_bits place 0)
    ∙ and_mask x (get_or place_bits place 0)
