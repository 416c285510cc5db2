-- An accepted end keeps the ends in range, and a byte lies in its block's area. Assumes nothing.
use mathlib.Core.Path.{◌≡◌, refl, sym, subst, ◌∙◌}
use mathlib.Core.Bool.{Bool, true, false, ◌&&◌, ◌||◌}
use mathlib.Core.Logic.{⊎_elim}
use Prim.Native.Nat.{ℕ, ◌+◌, ◌*◌, ◌/◌, ◌%◌, ◌≤◌}
use native.Mathlib.Omega.{arith}
use lib.Dec.{leb, ltb, eqb}
use borrow.Author.Tests.{leb-true, leb-false, ltb-true, ltb-false, eqb-true, le-leb, lt-leb, lt-ltb, eq-eqb}
use Rattle.register_table.specs.Passed.{pick, EndA, end_a}
use Rattle.register_table.proofs.Passed.{and_left, and_right, or_first, or_cases, picks}
use Rattle.registers.specs.declared.Ends.{Ends}
use Rattle.registers.specs.Map.{with_end}
use Rattle.areas.specs.Claims.{EndKept, ByteInBlocksArea}
use Rattle.areas.specs.Ends.{last_byte, area_of_block, area_of_byte, rises, ends_in_range, later_largest, exceeds_before, end_accepted}

-- ---- the range as facts
pub record Rising (e : Ends) : Type 0 where
  pub first : e.end1.bits ≤ 15
  pub second : e.end2.bits ≤ 15
  pub third : e.end3.bits ≤ 15
  pub one_two : rises e.end1 e.end2 ≡ true
  pub two_three : rises e.end2 e.end3 ≡ true

pub rising : (e : Ends) → ends_in_range e ≡ true → Rising e
unfolding ends_in_range
rising e h =
    let t1 = leb e.end1.bits 15 in
    let t2 = leb e.end2.bits 15 in
    let t3 = leb e.end3.bits 15 in
    let t4 = rises e.end1 e.end2 in
    let t5 = rises e.end2 e.end3 in
    let h4 = and_left (t1 && t2 && t3 && t4) t5 h in
    let h3 = and_left (t1 && t2 && t3) t4 h4 in
    let h2 = and_left (t1 && t2) t3 h3 in
    record { first = leb-true _ _ (and_left t1 t2 h2); second = leb-true _ _ (and_right t1 t2 h2); third = leb-true _ _ (and_right (t1 && t2) t3 h3); one_two = and_right (t1 && t2 && t3) t4 h4; two_three = and_right (t1 && t2 && t3 && t4) t5 h }

pub in_range_lem : (e : Ends) → Rising e → ends_in_range e ≡ true
unfolding ends_in_range
in_range_lem e r = rw (le-leb _ _ r.first, le-leb _ _ r.second, le-leb _ _ r.third, r.one_two, r.two_three)

-- any end that is at most 0Fh rises to 0Fh
up_by : (a b : ℕ) → a ≤ 15 → b ≡ 15 → (t : Bool) → ltb a b ≡ t → (t || (eqb a 15 && eqb b 15)) ≡ true
up_by a b l e true q = refl
up_by a b l e false q = rw (eq-eqb a 15 (omega (arith, ltb-false a b q)), eq-eqb b 15 e)

up : (a b : EndA) → a.bits ≤ 15 → b.bits ≡ 15 → rises a b ≡ true
up a b l e = up_by a.bits b.bits l e (ltb a.bits b.bits) refl

-- an end that exceeds the one before it, or is 0Fh, rises from it
after : (a : EndA) (x : ℕ) → a.bits ≤ 15 → x ≤ 15 → (ltb a.bits x || eqb x 15) ≡ true → rises a (end_a x) ≡ true
after a x l k h =
    ⊎_elim (λ p. or_first (ltb a.bits (x % 16)) (eqb a.bits 15 && eqb (x % 16) 15) (lt-ltb a.bits (x % 16) (omega (arith, ltb-true a.bits x p))))
    (λ p. up a (end_a x) l (omega (arith, eqb-true x 15 p)))
    (or_cases (ltb a.bits x) (eqb x 15) h)

-- ---- an accepted ENDAi keeps the range
record Accepted (e : Ends) (i x : ℕ) : Type 0 where
  at_most : x ≤ 15
  later : later_largest e i ≡ true
  exceeds : (exceeds_before e i x || eqb x 15) ≡ true

accepted : (e : Ends) (i x : ℕ) → end_accepted e i x ≡ true → Accepted e i x
unfolding end_accepted
accepted e i x h =
    let a = and_left (leb x 15 && later_largest e i) (exceeds_before e i x || eqb x 15) h in
    record { at_most = leb-true x 15 (and_left (leb x 15) (later_largest e i) a); later = and_right (leb x 15) (later_largest e i) a; exceeds = and_right (leb x 15 && later_largest e i) (exceeds_before e i x || eqb x 15) h }

kept_1 : (e : Ends) (x : ℕ) → Rising e → Accepted e 1 x → Rising (with_end 1 (end_a x) e)
unfolding with_end pick later_largest
kept_1 e x r a =
    let l2 : e.end2.bits ≡ 15 = eqb-true _ _ (and_left (eqb e.end2.bits 15) (eqb e.end3.bits 15) a.later) in
    record { first = omega (arith, a.at_most); second = r.second; third = r.third; one_two = up (end_a x) e.end2 (omega (arith, a.at_most)) l2; two_three = r.two_three }

kept_2 : (e : Ends) (x : ℕ) → Rising e → Accepted e 2 x → Rising (with_end 2 (end_a x) e)
unfolding with_end pick later_largest exceeds_before
kept_2 e x r a =
    record { first = r.first; second = omega (arith, a.at_most); third = r.third; one_two = after e.end1 x r.first a.at_most a.exceeds; two_three = up (end_a x) e.end3 (omega (arith, a.at_most)) (eqb-true _ _ a.later) }

kept_3 : (e : Ends) (x : ℕ) → Rising e → Accepted e 3 x → Rising (with_end 3 (end_a x) e)
unfolding with_end pick later_largest exceeds_before
kept_3 e x r a =
    record { first = r.first; second = r.second; third = omega (arith, a.at_most); one_two = r.one_two; two_three = after e.end2 x r.second a.at_most a.exceeds }

-- no ENDAi but 1 to 3 is replaced
other : (e : Ends) (i : ℕ) (a : EndA) → eqb i 1 ≡ false → eqb i 2 ≡ false → eqb i 3 ≡ false → e ≡ with_end i a e
unfolding with_end
other e i a p q s = search picks depth 10

module _ (e : Ends) (i x : ℕ) (r : Rising e) (a : end_accepted e i x ≡ true) where
  by_third : eqb i 1 ≡ false → eqb i 2 ≡ false → (t : Bool) → eqb i 3 ≡ t → Rising (with_end i (end_a x) e)
  by_third p q true s =
      let n : i ≡ 3 = eqb-true i 3 s in
      subst (λ (k : ℕ). Rising (with_end k (end_a x) e)) (sym n) (kept_3 e x r (subst (λ (k : ℕ). Accepted e k x) n (accepted e i x a)))
  by_third p q false s = subst Rising (other e i (end_a x) p q s) r

  by_second : eqb i 1 ≡ false → (t : Bool) → eqb i 2 ≡ t → Rising (with_end i (end_a x) e)
  by_second p true s =
      let n : i ≡ 2 = eqb-true i 2 s in
      subst (λ (k : ℕ). Rising (with_end k (end_a x) e)) (sym n) (kept_2 e x r (subst (λ (k : ℕ). Accepted e k x) n (accepted e i x a)))
  by_second p false s = by_third p s (eqb i 3) refl

  by_first : (t : Bool) → eqb i 1 ≡ t → Rising (with_end i (end_a x) e)
  by_first true s =
      let n : i ≡ 1 = eqb-true i 1 s in
      subst (λ (k : ℕ). Rising (with_end k (end_a x) e)) (sym n) (kept_1 e x r (subst (λ (k : ℕ). Accepted e k x) n (accepted e i x a)))
  by_first false s = by_second s (eqb i 2) refl

pub end_kept : EndKept
end_kept e i x r a = in_range_lem (with_end i (end_a x) e) (by_first e i x (rising e r) a (eqb i 1) refl)

-- ---- a byte lies in the area of its block
reach : (n b : ℕ) (t : Bool) → leb n (32 * b + 31) ≡ t → leb n (32 * b + 31) ≡ leb (n / 4) (8 * b + 7)
reach n b true q = q ∙ sym (le-leb (n / 4) (8 * b + 7) (omega (arith, leb-true n (32 * b + 31) q)))
reach n b false q = q ∙ sym (lt-leb (n / 4) (8 * b + 7) (omega (arith, leb-false n (32 * b + 31) q)))

pub byte_in_blocks_area : ByteInBlocksArea
unfolding area_of_byte area_of_block
byte_in_blocks_area e n =
    rw (reach n e.end1.bits (leb n (last_byte e.end1)) refl, reach n e.end2.bits (leb n (last_byte e.end2)) refl, reach n e.end3.bits (leb n (last_byte e.end3)) refl)
