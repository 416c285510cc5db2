-- Bytes of a run: their area and their locks. Assumes nothing.
use mathlib.Core.Path.{◌≡◌, refl}
use mathlib.Core.Bool.{Bool, true, false, false≢true}
use Prim.Native.Nat.{ℕ, ◌≤◌, ◌<◌}
use native.Mathlib.Omega.{arith}
use lib.Dec.{leb}
use borrow.Author.Tests.{leb-true, le-leb, ne_eqb}
use Rattle.parts.specs.Pick.{pick}
use Rattle.registers.specs.declared.Ends.{Ends}
use Rattle.register_types.specs.declared.LockCcFile.{LockCcFile}
use Rattle.areas.specs.Ends.{last_byte, area_of_byte}
use Rattle.rights.specs.Rights.{is_locked}

-- ---- the area never falls as the address rises
least : (t : Bool) (n x y : ℕ) → n ≤ x → n ≤ y → n ≤ pick t x y
unfolding pick
least true n x y p q = p
least false n x y p q = q

-- a choice whose first answer is the least, against one that takes it no more often
rises : (s t : Bool) (n x y : ℕ) → (t ≡ true → s ≡ true) → n ≤ y → x ≤ y → pick s n x ≤ pick t n y
unfolding pick
rises true true n x y h p q = omega arith
rises true false n x y h p q = p
rises false true n x y h p q = absurd (false≢true (h refl))
rises false false n x y h p q = q

area_rises : (e : Ends) (a b : ℕ) → a ≤ b → area_of_byte e a ≤ area_of_byte e b
unfolding area_of_byte
area_rises e a b l =
    let reached : (n : ℕ) → leb b n ≡ true → leb a n ≡ true = λ n h. le-leb a n (omega (arith, l, leb-true b n h)) in
    rises _ _ 1 _ _ (reached (last_byte e.end1)) (least _ 1 2 _ (omega arith) (least _ 1 3 4 (omega arith) (omega arith)))
    (rises _ _ 2 _ _ (reached (last_byte e.end2)) (least _ 2 3 4 (omega arith) (omega arith))
    (rises _ _ 3 4 4 (reached (last_byte e.end3)) (omega arith) (omega arith)))

-- bytes between two of one area lie in it
pub area_between : (e : Ends) (a b c : ℕ) → a ≤ b → b ≤ c → area_of_byte e a ≡ area_of_byte e c → area_of_byte e a ≡ area_of_byte e b
area_between e a b c l g h = omega (arith, h, area_rises e a b l, area_rises e b c g)

-- LOCK_CCFILE locks no block but 0 and 1
pub unlocked : (s : LockCcFile) (block : ℕ) → 1 < block → is_locked s block ≡ false
unfolding is_locked
unlocked s block l = rw (ne_eqb block 0 (λ e. omega arith), ne_eqb block 1 (λ e. omega arith))
