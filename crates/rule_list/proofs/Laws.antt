-- Laws of lists of rules. Assumes nothing.
use mathlib.Core.Path.{◌≡◌, refl, sym, ap}
use mathlib.Core.Bool.{Bool, true, false, not, ◌||◌, false≢true}
use mathlib.Core.List.{List, [], ◌∷◌, ◌++◌, map}
use Prim.Native.Nat.{ℕ}
use lib.Dec.{eqb}
use Rattle.parts.specs.Pick.{pick}
use Rattle.rule_list.specs.RuleList.{any_holds, first_says}

or_pick : (a b c : Bool) → b ≡ c → (a || b) ≡ pick a true c
unfolding pick
or_pick true b c e = refl
or_pick false b c e = e

-- for code that tests one rule after the other and stops at the first that holds
pub any_says : {R : Type 0} (holds : R → Bool) (rs : List R) → any_holds holds rs ≡ first_says holds (λ r. true) false rs
unfolding any_holds first_says
any_says holds [] = refl
any_says holds (r ∷ rs) = or_pick (holds r) (any_holds holds rs) (first_says holds (λ q. true) false rs) (any_says holds rs)

-- a list in two parts, the first of them tested before the second
pub says_append : {R A : Type 0} (holds : R → Bool) (says : R → A) (last : A) (rs qs : List R)
    → first_says holds says last (rs ++ qs) ≡ first_says holds says (first_says holds says last qs) rs
unfolding first_says
says_append holds says last [] qs = refl
says_append holds says last (r ∷ rs) qs = ap (pick (holds r) (says r)) (says_append holds says last rs qs)

passed : {A : Type 0} (P : A → Type 0) (b c d : Bool) (x y : A) → (c || d) ≡ false → (b ≡ true → c ≡ false → P x) → (d ≡ false → P y) → P (pick b x y)
unfolding pick
passed P b true d x y h f g = absurd (false≢true (sym h))
passed P true false d x y h f g = f refl refl
passed P false false d x y h f g = g h

-- what no rule of the list is, the one that speaks is not
pub says_passes : {R A : Type 0} (holds bad : R → Bool) (says : R → A) (last : A) (P : A → Type 0) (rs : List R)
    → any_holds bad rs ≡ false → ((r : R) → holds r ≡ true → bad r ≡ false → P (says r)) → P last → P (first_says holds says last rs)
unfolding any_holds first_says
says_passes holds bad says last P [] h each end = end
says_passes holds bad says last P (r ∷ rs) h each end =
    passed P (holds r) (bad r) (any_holds bad rs) (says r) _ h (each r) (λ k. says_passes holds bad says last P rs k each end)

-- a list in two parts
pub any_append : {R : Type 0} (holds : R → Bool) (rs qs : List R) → any_holds holds (rs ++ qs) ≡ pick (any_holds holds rs) true (any_holds holds qs)
unfolding any_holds pick
any_append holds [] qs = refl
any_append holds (r ∷ rs) qs = either (holds r) (any_append holds rs qs)
  where
    either : (b : Bool) → any_holds holds (rs ++ qs) ≡ pick (any_holds holds rs) true (any_holds holds qs)
        → (b || any_holds holds (rs ++ qs)) ≡ pick (b || any_holds holds rs) true (any_holds holds qs)
    either true e = refl
    either false e = e

-- what is made of what the first rule says
pub says_through : {R A B : Type 0} (g : A → B) (holds : R → Bool) (says : R → A) (last : A) (rs : List R)
    → g (first_says holds says last rs) ≡ first_says holds (λ r. g (says r)) (g last) rs
unfolding first_says pick
says_through g holds says last [] = refl
says_through g holds says last (r ∷ rs) = either (holds r) (says_through g holds says last rs)
  where
    either : (b : Bool) → g (first_says holds says last rs) ≡ first_says holds (λ q. g (says q)) (g last) rs
        → g (pick b (says r) (first_says holds says last rs)) ≡ pick b (g (says r)) (first_says holds (λ q. g (says q)) (g last) rs)
    either true e = refl
    either false e = e

-- numbered rules, 0 being no number: a list that goes on where no rule of its first part holds
module _ {R : Type 0} (holds : R → Bool) (number : R → ℕ) (numbered : (r : R) → eqb (number r) 0 ≡ false) where
  pub numbered_or : (last : ℕ) (rs : List R) → first_says holds number last rs ≡ pick (eqb (first_says holds number 0 rs) 0) last (first_says holds number 0 rs)
  unfolding first_says pick
  numbered_or last [] = refl
  numbered_or last (r ∷ rs) = more (holds r) (numbered_or last rs)
    where
      more : (b : Bool) → first_says holds number last rs ≡ pick (eqb (first_says holds number 0 rs) 0) last (first_says holds number 0 rs)
          → pick b (number r) (first_says holds number last rs)
          ≡ pick (eqb (pick b (number r) (first_says holds number 0 rs)) 0) last (pick b (number r) (first_says holds number 0 rs))
      more true e = rw (numbered r)
      more false e = e

  pub numbered_any : (rs : List R) → any_holds holds rs ≡ not (eqb (first_says holds number 0 rs) 0)
  unfolding any_holds first_says pick
  numbered_any [] = refl
  numbered_any (r ∷ rs) = more (holds r) (numbered_any rs)
    where
      more : (b : Bool) → any_holds holds rs ≡ not (eqb (first_says holds number 0 rs) 0)
          → (b || any_holds holds rs) ≡ not (eqb (pick b (number r) (first_says holds number 0 rs)) 0)
      more true e = rw (numbered r)
      more false e = e

-- a list made of another
pub says_map : {Q R A : Type 0} (g : Q → R) (holds : R → Bool) (says : R → A) (last : A) (qs : List Q)
    → first_says holds says last (map g qs) ≡ first_says (λ q. holds (g q)) (λ q. says (g q)) last qs
unfolding first_says
says_map g holds says last [] = refl
says_map g holds says last (q ∷ qs) = ap (pick (holds (g q)) (says (g q))) (says_map g holds says last qs)
