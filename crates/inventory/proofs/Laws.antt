-- A slot is 0 to 15; who takes part, and who does not. Assumes nothing.
use mathlib.Core.Path.{◌≡◌, refl, ap, ◌∙◌}
use mathlib.Core.Bool.{Bool, true, false, not, ◌&&◌, ◌||◌}
use mathlib.Core.List.{List}
use Prim.Native.Nat.{ℕ, ◌+◌, ◌≤◌}
use native.Mathlib.Omega.{arith}
use lib.Dec.{leb}
use borrow.Author.Tests.{le-leb}
use Rattle.parts.specs.Bits.{is_set}
use Rattle.parts.proofs.Bools.{and_left, and_right}
use Rattle.parts.proofs.Picks.{pick_case}
use Rattle.register_types.specs.declared.RfMngt.{RfMngt}
use Rattle.register_types.specs.declared.Afi.{Afi}
use Rattle.air.specs.declared.Air.{Air}
use Rattle.air.specs.Radio.{is_quiet}
use Rattle.keys.specs.declared.Uid.{Uid}
use Rattle.inventory.specs.Inventory.{mask_bits, bit_at, slot_number, own_slot, slots_after, takes_part}

-- ---- slots
bit_most : (s : List ℕ) (at i : ℕ) → bit_at s at i ≤ 1
unfolding bit_at
bit_most s at i = omega arith

slot_le : (uid : List ℕ) (n : ℕ) → slot_number uid n ≤ 15
unfolding slot_number
slot_le uid n = omega (arith, bit_most uid 0 n, bit_most uid 0 (n + 1), bit_most uid 0 (n + 2), bit_most uid 0 (n + 3))

slot_most : (uid : List ℕ) (n : ℕ) → leb (slot_number uid n) 15 ≡ true
slot_most uid n = le-leb (slot_number uid n) 15 (slot_le uid n)

pub slots_most : (f : List ℕ) (u : Uid) (own : Afi) → leb (slots_after f u own) 15 ≡ true
unfolding slots_after own_slot
slots_most f u own =
    pick_case (λ (n : ℕ). leb n 15 ≡ true) _ _ _ (λ h. pick_case (λ (n : ℕ). leb n 15 ≡ true) _ _ _ (λ k. refl) (λ k. slot_most u.bytes (mask_bits f))) (λ h. refl)

-- ---- who takes part
pub part_awake : (a : Air) (dynamic : RfMngt) (busy : Bool) → takes_part a dynamic busy ≡ true → (a.field && not (is_quiet a.radio)) ≡ true
unfolding takes_part
part_awake a dynamic busy h =
    let field = a.field in
    let awake = not (is_set 2 dynamic.bits) in
    let quiet = not (is_quiet a.radio) in
    let heard = and_left (field && awake && quiet) _ h in
    rw (and_left field awake (and_left (field && awake) quiet heard), and_right (field && awake) quiet heard)

-- one that is shut out does not
none : (b : Bool) → (b && false) ≡ false
none true = refl
none false = refl

pub part_shut : (a : Air) (dynamic : RfMngt) (busy : Bool) → (is_set 1 dynamic.bits || busy) ≡ true → takes_part a dynamic busy ≡ false
unfolding takes_part
part_shut a dynamic busy h = ap (λ (b : Bool). (a.field && not (is_set 2 dynamic.bits) && not (is_quiet a.radio)) && not b) h ∙ none (a.field && not (is_set 2 dynamic.bits) && not (is_quiet a.radio))
