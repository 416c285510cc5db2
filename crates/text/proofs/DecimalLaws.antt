-- Laws of decimal digits. Assumes nothing.
use mathlib.Core.Path.{◌≡◌, refl, sym, ap, ◌∙◌}
use mathlib.Core.Bool.{Bool, true, false}
use mathlib.Core.List.{List, [], ◌∷◌, ◌++◌}
use Prim.Native.Nat.{ℕ, zero, suc, ◌+◌, ◌*◌, ◌/◌, ◌%◌, ◌^◌, ◌≤◌, ◌<◌}
use native.Mathlib.Omega.{arith}
use native.Mathlib.Nat.{add-zero}
use lib.Dec.{ltb}
use borrow.Author.Tests.{ltb-true, ltb-false}
use lib.ListN.{length, set, length-append}
use lib.Seq.{sets}
use Rattle.std.proofs.Math.Nat.{pow-suc, one-le-pow}
use Rattle.parts.proofs.Picks.{pick_case, pick_lt, pick_not_lt}
use Rattle.parts.proofs.Lists.{sets_snoc}
use Rattle.text.specs.Decimal.{digits_of}

-- a number of one digit, and one of more
digits_last : (k n : ℕ) → n < 10 → (0x30 + n) ∷ [] ≡ digits_of (suc k) n
unfolding digits_of
digits_last k n h = pick_lt ((0x30 + n) ∷ []) (digits_of k (n / 10) ++ (0x30 + n % 10) ∷ []) ((0x30 + n) ∷ []) n 10 h refl

digits_more : (k n : ℕ) → 10 ≤ n → digits_of k (n / 10) ++ (0x30 + n % 10) ∷ [] ≡ digits_of (suc k) n
unfolding digits_of
digits_more k n h = pick_not_lt ((0x30 + n) ∷ []) _ _ n 10 h refl

pub count_last : (k n : ℕ) → n < 10 → length (digits_of (suc k) n) ≡ 1
count_last k n h = ap length (sym (digits_last k n h))

count_more : (k n : ℕ) → 10 ≤ n → length (digits_of (suc k) n) ≡ suc (length (digits_of k (n / 10)))
count_more k n h =
    ap length (sym (digits_more k n h))
    ∙ (length-append (digits_of k (n / 10)) ((0x30 + n % 10) ∷ []) ∙ omega arith)

-- as many digits as the number has are all of them
enough_at : (k n : ℕ) → digits_of (length (digits_of k (n / 10))) (n / 10) ≡ digits_of k (n / 10)
    → (b : Bool) → ltb n 10 ≡ b → digits_of (length (digits_of (suc k) n)) n ≡ digits_of (suc k) n
enough_at k n ih true h =
    let l = ltb-true n 10 h in
    ap (λ (j : ℕ). digits_of j n) (count_last k n l) ∙ sym (digits_last 0 n l) ∙ digits_last k n l
enough_at k n ih false h =
    let l = ltb-false n 10 h in
    ap (λ (j : ℕ). digits_of j n) (count_more k n l)
    ∙ sym (digits_more (length (digits_of k (n / 10))) n l)
    ∙ ap (λ (x : List ℕ). x ++ (0x30 + n % 10) ∷ []) ih
    ∙ digits_more k n l

pub digits_enough : (k n : ℕ) → digits_of (length (digits_of k n)) n ≡ digits_of k n
unfolding digits_of
digits_enough zero n = refl
digits_enough (suc k) n = enough_at k n (digits_enough k (n / 10)) (ltb n 10) refl

-- a store past a run
set_past : (l : List ℕ) (i j x y : ℕ) → i < j → set (set l i x) j y ≡ set (set l j y) i x
set_past [] i j x y h = refl
set_past (z ∷ l) i zero x y h = absurd (omega arith)
set_past (z ∷ l) zero (suc j) x y h = refl
set_past (z ∷ l) (suc i) (suc j) x y h = ap (λ (r : List ℕ). z ∷ r) (set_past l i j x y (omega arith))

sets_past : (xs l : List ℕ) (at i x : ℕ) → at + length xs ≤ i → set (sets l at xs) i x ≡ sets (set l i x) at xs
sets_past [] l at i x h = refl
sets_past (y ∷ xs) l at i x h =
    sets_past xs (set l at y) (suc at) i x (omega arith)
    ∙ ap (λ (r : List ℕ). sets r (suc at) xs) (set_past l at i y x (omega arith))

-- the last digit stored first, in a text at a place
stored_at : (t : List ℕ) (at j n : ℕ) → length (digits_of (suc j) n) ≡ suc j → (b : Bool) → ltb n 10 ≡ b
    → (sets (set t (at + j) (0x30 + n % 10)) at (digits_of j (n / 10)) ≡ sets t at (digits_of (suc j) n)) × (length (digits_of j (n / 10)) ≡ j)
unfolding digits_of
stored_at t at zero n e true h =
    let l = ltb-true n 10 h in
    let q : n % 10 ≡ n = omega arith in
    (ap (λ (i : ℕ). set t i (0x30 + n % 10)) (add-zero at) ∙ ap (λ (x : ℕ). set t at (0x30 + x)) q ∙ ap (λ (x : List ℕ). sets t at x) (digits_last 0 n l), refl)
stored_at t at (suc j) n e true h = absurd (omega (arith, count_last (suc j) n (ltb-true n 10 h)))
stored_at t at j n e false h =
    let l = ltb-false n 10 h in
    let d = digits_of j (n / 10) in
    let k : length d ≡ j = omega (arith, count_more j n l) in
    let q : at + length d ≡ at + j = omega arith in (
      sym (sets_past d t at (at + j) (0x30 + n % 10) (omega arith))
          ∙ ap (λ (i : ℕ). set (sets t at d) i (0x30 + n % 10)) (sym q)
          ∙ sym (sets_snoc d t at (0x30 + n % 10))
          ∙ ap (λ (x : List ℕ). sets t at x) (digits_more j n l),
      k,
    )

pub digit_stored : (t : List ℕ) (at j n : ℕ) → length (digits_of (suc j) n) ≡ suc j
    → (sets (set t (at + j) (0x30 + n % 10)) at (digits_of j (n / 10)) ≡ sets t at (digits_of (suc j) n)) × (length (digits_of j (n / 10)) ≡ j)
digit_stored t at j n e = stored_at t at j n e (ltb n 10) refl

-- a number has at most as many digits as were asked for
pub digits_most : (k n : ℕ) → length (digits_of k n) ≤ k
unfolding digits_of
digits_most zero n = omega arith
digits_most (suc k) n =
    pick_case (λ (l : List ℕ). length l ≤ suc k) (ltb n 10) _ _
    (λ _. omega arith)
    (λ _. omega (arith, length-append (digits_of k (n / 10)) ((0x30 + n % 10) ∷ []), digits_most k (n / 10)))

-- ---- the number of digits, by powers of ten
-- a number below the power k has k digits at most, and one from it on has more
below_at : (j k n : ℕ) → (1 ≤ k → n / 10 < 10 ^ k → length (digits_of j (n / 10)) ≤ k) → n < 10 * 10 ^ k
    → (b : Bool) → ltb n 10 ≡ b → length (digits_of (suc j) n) ≤ suc k
below_at j k n ih l true h = omega (arith, count_last j n (ltb-true n 10 h))
below_at j zero n ih l false h = absurd (omega (arith, ltb-false n 10 h))
below_at j (suc k) n ih l false h = omega (arith, count_more j n (ltb-false n 10 h), ih (omega arith) (omega arith))

pub digits_below : (j k n : ℕ) → 1 ≤ k → n < 10 ^ k → length (digits_of j n) ≤ k
unfolding digits_of
digits_below zero k n p l = omega arith
digits_below (suc j) zero n p l = absurd (omega arith)
digits_below (suc j) (suc k) n p l = below_at j k n (digits_below j k (n / 10)) (omega (arith, l, pow-suc 10 k)) (ltb n 10) refl

some_at : (j n : ℕ) (b : Bool) → ltb n 10 ≡ b → 1 ≤ length (digits_of (suc j) n)
some_at j n true h = omega (arith, count_last j n (ltb-true n 10 h))
some_at j n false h = omega (arith, count_more j n (ltb-false n 10 h))

pub digits_some : (j n : ℕ) → 1 ≤ length (digits_of (suc j) n)
digits_some j n = some_at j n (ltb n 10) refl

pub digits_from : (j k n : ℕ) → 10 ^ k ≤ n → k < j → k < length (digits_of j n)
digits_from zero k n l h = absurd (omega arith)
digits_from (suc j) zero n l h = digits_some j n
digits_from (suc j) (suc k) n l h =
    let p = pow-suc 10 k in
    let o = one-le-pow k 10 (omega arith) in
    omega (arith, count_more j n (omega (arith, p, o)), digits_from j k (n / 10) (omega (arith, p)) (omega arith))
