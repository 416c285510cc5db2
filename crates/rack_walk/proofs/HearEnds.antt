-- A slice's tags past those of the rack hear nothing. Assumes nothing.
use mathlib.Core.Path.{◌≡◌, refl, sym, ◌∙◌, ap}
use mathlib.Core.Bool.{Bool, true, false}
use mathlib.Core.List.{List}
use Prim.Native.Nat.{ℕ, zero, suc, ◌+◌, ◌-◌, ◌≤◌, min}
use native.Mathlib.Nat.{zero-add, suc-add}
use native.Mathlib.Omega.{arith}
use lib.Dec.{leb}
use borrow.Author.Tests.{leb-true, leb-false}
use lib.ListN.{length}
use Rattle.parts.proofs.Picks.{pick_case}
use Rattle.tag.specs.declared.Tag.{Tag}
use Rattle.rack_hear.specs.declared.Heard.{Heard}
use Rattle.rack_hear.specs.Hear.{HeardResult, act_at, hear_of, hear_one_of, hear_all_of}
use Rattle.rack_hear.proofs.Claims.{past}

abbrev Kept : Heard → HeardResult → Type 0
Kept heard r = r.answer.number ≡ heard.number

turn_number : (t : Tag) (m o f : List ℕ) (i : ℕ) (heard : Heard) → Kept heard (hear_of t m o f i heard)
unfolding hear_of act_at
turn_number t m o f i heard =
    let P = Kept heard in
    pick_case P _ _ _ (λ _. refl) (λ _. pick_case P _ _ _ (λ _. refl) (λ _. pick_case P _ _ _ (λ _. refl) (λ _. pick_case P _ _ _ (λ _. refl)
    (λ _. pick_case P _ _ _ (λ _. pick_case P _ _ _ (λ _. refl) (λ _. refl)) (λ _. refl)))))

module _ (tags : List Tag) (m o f : List ℕ) (heard : Heard) where
  all_number : (n : ℕ) → (hear_all_of n tags m o f heard).answer.number ≡ heard.number
  unfolding hear_all_of hear_one_of
  all_number zero = refl
  all_number (suc n) = turn_number _ _ _ f n (hear_all_of n tags m o f heard).answer ∙ all_number n

  more : (i j : ℕ) → heard.number ≤ i → hear_all_of (j + i) tags m o f heard ≡ hear_all_of i tags m o f heard
  unfolding hear_all_of
  more i zero h = ap (λ (k : ℕ). hear_all_of k tags m o f heard) (zero-add i)
  more i (suc j) h =
      ap (λ (k : ℕ). hear_all_of k tags m o f heard) (suc-add j i) ∙
      past (j + i) f (hear_all_of (j + i) tags m o f heard) (let e = all_number (j + i) in omega (arith, e, h)) ∙ more i j h

-- so a loop over the rack's tags goes over all that hear
pub all_ends : (i : ℕ) (tags : List Tag) (m o f : List ℕ) (heard : Heard) → i ≡ min (length tags) heard.number
    → hear_all_of i tags m o f heard ≡ hear_all_of (length tags) tags m o f heard
all_ends i tags m o f heard e = by (leb (length tags) heard.number) refl
  where
    by : (b : Bool) → leb (length tags) heard.number ≡ b → hear_all_of i tags m o f heard ≡ hear_all_of (length tags) tags m o f heard
    by true h = let l = leb-true (length tags) heard.number h in ap (λ (k : ℕ). hear_all_of k tags m o f heard) (omega (arith, e, l))
    by false h =
        let l = leb-false (length tags) heard.number h in
        sym (more tags m o f heard i (length tags - i) (omega (arith, e, l)))
        ∙ ap (λ (k : ℕ). hear_all_of k tags m o f heard) (omega (arith, e, l))
