-- The first slot in which two answer, from how many answer in each. Assumes nothing.
use mathlib.Core.Path.{◌≡◌, refl, ◌∙◌, ap, subst}
use mathlib.Core.Bool.{Bool, true, false}
use Prim.Native.Nat.{ℕ, zero, suc, ◌+◌, ◌<◌, ◌≤◌}
use Rattle.std.specs.Prelude.{Ok, Err, Some, None}
use native.Mathlib.Omega.{arith}
use lib.Dec.{ltb}
use borrow.Author.Tests.{ltb-true, ltb-false}
use Rattle.parts.specs.Pick.{pick}
use Rattle.parts.proofs.Picks.{pick_case}
use Rattle.rack_search.specs.Search.{SearchAnswer}

-- n slots from k on; count j answer in slot j
unfoldable pub first_from : ℕ → ℕ → (ℕ → ℕ) → SearchAnswer
first_from zero k count = Ok None
first_from (suc n) k count = pick (ltb 1 (count k)) (Ok (Some k)) (first_from n (suc k) count)

-- it looks at the slots from k on
pub first_alike : (n k : ℕ) (a b : ℕ → ℕ) → ((j : ℕ) → k ≤ j → a j ≡ b j) → first_from n k a ≡ first_from n k b
unfolding first_from
first_alike zero k a b h = refl
first_alike (suc n) k a b h =
    ap (λ (i : ℕ). pick (ltb 1 i) (Ok (Some k)) (first_from n (suc k) a)) (h k (omega arith))
    ∙ ap (λ (x : SearchAnswer). pick (ltb 1 (b k)) (Ok (Some k)) x) (first_alike n (suc k) a b (λ j l. h j (omega arith)))

-- what an answer tells
unfoldable pub Tells : (ℕ → ℕ) → SearchAnswer → Type 0
Tells count (Err x) = ⊥
Tells count (Ok None) = (j : ℕ) → count j < 2
Tells count (Ok (Some k)) = (2 ≤ count k) × ((j : ℕ) → j < k → count j < 2)

split : (P : Type 0) (j k : ℕ) → (j < k → P) → (k ≤ j → P) → P
split P j k f g = by (ltb j k) refl
  where
    by : (b : Bool) → ltb j k ≡ b → P
    by true h = f (ltb-true j k h)
    by false h = g (ltb-false j k h)

pub first_tells : (n k : ℕ) (count : ℕ → ℕ) → ((j : ℕ) → j < k → count j < 2) → ((j : ℕ) → k + n ≤ j → count j < 2) → Tells count (first_from n k count)
unfolding first_from Tells
first_tells zero k count before after = λ j. split (count j < 2) j k (λ l. before j l) (λ l. after j (omega arith))
first_tells (suc n) k count before after =
    pick_case (Tells count) (ltb 1 (count k)) (Ok (Some k)) (first_from n (suc k) count)
    (λ b. (let l = ltb-true 1 (count k) b in omega (arith, l), before))
    (λ b. first_tells n (suc k) count
    (λ j l. split (count j < 2) j k (λ a. before j a) (λ a.
    let e : k ≡ j = omega arith in
    let few = ltb-false 1 (count k) b in
    subst (λ (i : ℕ). count i < 2) e (omega (arith, few))))
    (λ j l. after j (omega arith)))

-- ---- and it is the only one that does
module _ (count : ℕ → ℕ) where
  pub tells_slot : (a : SearchAnswer) (k : ℕ) → a ≡ Ok (Some k) → Tells count a → (2 ≤ count k) × ((j : ℕ) → j < k → count j < 2)
  unfolding Tells
  tells_slot a k e h = subst (Tells count) e h

  pub slot_told : (a : SearchAnswer) (k : ℕ) → Tells count a → 2 ≤ count k → ((j : ℕ) → j < k → count j < 2) → a ≡ Ok (Some k)
  unfolding Tells
  slot_told (Err x) k h two before = absurd h
  slot_told (Ok None) k h two before = let few = h k in absurd (omega (arith, few, two))
  slot_told (Ok (Some i)) k h two before =
      split (Ok (Some i) ≡ Ok (Some k)) i k
      (λ l. let few = before i l in let more = h.0 in absurd (omega (arith, few, more)))
      (λ l. split (Ok (Some i) ≡ Ok (Some k)) k i
      (λ m. let few = h.1 k m in absurd (omega (arith, few, two)))
      (λ m. let e : i ≡ k = omega arith in ap (λ (j : ℕ). Ok (Some j)) e))

  pub tells_none : (a : SearchAnswer) → a ≡ Ok None → Tells count a → (j : ℕ) → count j < 2
  unfolding Tells
  tells_none a e h = subst (Tells count) e h

  pub none_told : (a : SearchAnswer) → Tells count a → ((j : ℕ) → count j < 2) → a ≡ Ok None
  unfolding Tells
  none_told (Err x) h few = absurd h
  none_told (Ok None) h few = refl
  none_told (Ok (Some k)) h few = let less = few k in let two = h.0 in absurd (omega (arith, less, two))
