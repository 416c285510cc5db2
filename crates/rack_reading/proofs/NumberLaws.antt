-- Laws of a number's digits, read. Assumes nothing.
use mathlib.Core.Path.{◌≡◌, refl}
use mathlib.Core.Bool.{Bool, true, false, not, ◌&&◌}
use mathlib.Core.List.{List, [], ◌∷◌}
use Prim.Native.Nat.{ℕ, ◌+◌, ◌-◌, ◌*◌, ◌≤◌, ◌<◌}
use native.Mathlib.Omega.{arith}
use native.Mathlib.Numerals.{add-one}
use lib.Dec.{leb}
use borrow.Author.Tests.{leb-true}
use lib.ListN.{length, drop, get_or}
use lib.Seq.{drop-cons}
use Rattle.parts.specs.Pick.{pick}
use Rattle.parts.proofs.Bools.{and_left, and_right}
use Rattle.parts.proofs.Picks.{pick_case, pick_true, pick_false, pick_lt, pick_not_lt}
use Rattle.rack_reading.specs.Line.{bad_rack_line, name_line, is_digit, all_digits, number_from, number_of, most_number, badly_begun, number_sent}

-- a character more
pub digits_step : (s : List ℕ) (i : ℕ) → i < length s → all_digits (drop i s) ≡ (is_digit (get_or s i 0) && all_digits (drop (i + 1) s))
unfolding all_digits
digits_step s i h = rw (drop-cons s i 0 h, add-one i)

pub number_step : (n : ℕ) (s : List ℕ) (i : ℕ) → i < length s
    → number_from n (drop i s) ≡ number_from (10 * n + (get_or s i 0 - 0x30)) (drop (i + 1) s)
unfolding number_from
number_step n s i h = rw (drop-cons s i 0 h, add-one i)

-- digits behind a number do not make it smaller
pub number_grows : (s : List ℕ) (n : ℕ) → n ≤ number_from n s
unfolding number_from
number_grows [] n = omega arith
number_grows (x ∷ s) n = omega (arith, number_grows s (10 * n + (x - 0x30)))

-- a digit's value
pub digit_from : (x : ℕ) → is_digit x ≡ true → 0x30 ≤ x
unfolding is_digit
digit_from x h = leb-true 0x30 x (and_left (leb 0x30 x) (leb x 0x39) h)

pub digit_most : (x : ℕ) → is_digit x ≡ true → x ≤ 0x39
unfolding is_digit
digit_most x h = leb-true x 0x39 (and_right (leb 0x30 x) (leb x 0x39) h)

-- ---- what a number's text says, where it is well begun
either : {A : Type 0} (b : Bool) (x y : A) → x ≡ y → x ≡ pick b x y
either b x y e = pick_case (λ z. x ≡ z) b x y (λ _. refl) (λ _. e)

module _ (s : List ℕ) (h : badly_begun s ≡ false) where
  pub no_digit : all_digits s ≡ false → bad_rack_line ≡ number_sent s
  unfolding number_sent
  no_digit d = pick_false _ _ _ (badly_begun s) h (pick_true _ _ _ (not (all_digits s)) (rw d) refl)

  pub too_much : most_number < number_of s → bad_rack_line ≡ number_sent s
  unfolding number_sent
  too_much m = pick_false _ _ _ (badly_begun s) h (either (not (all_digits s)) _ _ (pick_lt _ _ _ most_number (number_of s) m refl))

  pub named : all_digits s ≡ true → number_of s ≤ most_number → name_line (number_of s) ≡ number_sent s
  unfolding number_sent
  named d m =
      pick_false _ _ _ (badly_begun s) h
      (pick_false _ _ _ (not (all_digits s)) (rw d) (pick_not_lt _ _ _ most_number (number_of s) m refl))
