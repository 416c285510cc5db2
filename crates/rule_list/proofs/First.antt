-- What the first rule that holds says, and back. Assumes nothing.
use Prim.{tt}
use mathlib.Core.Path.{◌≡◌, refl, sym, ap}
use mathlib.Core.Bool.{Bool, true, false}
use mathlib.Core.List.{List, [], ◌∷◌, ◌++◌}
use Rattle.parts.specs.Pick.{pick}
use Rattle.rule_list.specs.RuleList.{first_says, NoneHolds, IsFirst}
use Rattle.rule_list.specs.Claims.{SaidByFirst, SaidByNone}

module _ {R A : Type 0} (holds : R → Bool) (says : R → A) (last : A) where
  passes : (before after : List R) (r : R) → holds r ≡ true → NoneHolds holds before → first_says holds says last (before ++ r ∷ after) ≡ says r
  unfolding first_says pick NoneHolds
  passes [] after r h n = rw h
  passes (q ∷ before) after r h n = rw n.0 (passes before after r h n.1)

  pub first_says_lem : (rs : List R) (r : R) → IsFirst holds rs r → first_says holds says last rs ≡ says r
  first_says_lem rs r f = rw f.order (passes f.earlier f.later r f.condition f.others)

  pub none_says : (rs : List R) → NoneHolds holds rs → first_says holds says last rs ≡ last
  unfolding first_says pick NoneHolds
  none_says [] n = refl
  none_says (q ∷ rs) n = rw n.0 (none_says rs n.1)

  module _ (apart : (r : R) → says r ≡ last → ⊥) where
    none_more : (q : R) (rs : List R) (b : Bool) → holds q ≡ b → (first_says holds says last rs ≡ last → NoneHolds holds rs)
        → pick b (says q) (first_says holds says last rs) ≡ last → NoneHolds holds (q ∷ rs)
    unfolding pick NoneHolds
    none_more q rs true h ih e = absurd (apart q e)
    none_more q rs false h ih e = (h, ih e)

    pub said_by_none : (rs : List R) → first_says holds says last rs ≡ last → NoneHolds holds rs
    unfolding first_says NoneHolds
    said_by_none [] e = tt
    said_by_none (q ∷ rs) e = none_more q rs (holds q) refl (said_by_none rs) e

    module _ (own : (r q : R) → says r ≡ says q → r ≡ q) where
      first_more : (r q : R) (rs : List R) (b : Bool) → holds q ≡ b → (first_says holds says last rs ≡ says r → IsFirst holds rs r)
          → pick b (says q) (first_says holds says last rs) ≡ says r → IsFirst holds (q ∷ rs) r
      unfolding pick NoneHolds
      first_more r q rs true h ih e =
          let s : q ≡ r = own q r e in
          record { earlier = []; later = rs; order = ap (λ (x : R). x ∷ rs) s; condition = rw (← s) h; others = tt }
      first_more r q rs false h ih e =
          let f = ih e in
          record { earlier = q ∷ f.earlier; later = f.later; order = ap (λ (xs : List R). q ∷ xs) f.order; condition = f.condition; others = (h, f.others) }

      pub said_by_first : (rs : List R) (r : R) → first_says holds says last rs ≡ says r → IsFirst holds rs r
      unfolding first_says
      said_by_first [] r e = absurd (apart r (sym e))
      said_by_first (q ∷ rs) r e = first_more r q rs (holds q) refl (said_by_first rs r) e

pub by_first : SaidByFirst
by_first R A holds says last own apart rs r = (said_by_first holds says last apart own rs r, first_says_lem holds says last rs r)

pub by_none : SaidByNone
by_none R A holds says last apart rs = (said_by_none holds says last apart rs, none_says holds says last rs)
