-- Rules in their order, each with a condition.
use Prim.{Unit}
use Rattle.std.specs.Prelude.{◌≡◌, Bool, true, false, ◌||◌, List, [], ◌∷◌, ◌++◌}
use Rattle.parts.specs.Pick.{pick}

-- some rule of the list holds
unfoldable pub any_holds : {R : Type 0} → (R → Bool) → List R → Bool
any_holds holds [] = false
any_holds holds (r ∷ rs) = holds r || any_holds holds rs

-- what the first rule that holds says, and `last` where none does
unfoldable pub first_says : {R A : Type 0} → (R → Bool) → (R → A) → A → List R → A
first_says holds says last [] = last
first_says holds says last (r ∷ rs) = pick (holds r) (says r) (first_says holds says last rs)

-- no rule of the list holds
unfoldable pub NoneHolds : {R : Type 0} → (R → Bool) → List R → Type 0
NoneHolds holds [] = Unit {0}
NoneHolds holds (rule ∷ rules) = (holds rule ≡ false) × NoneHolds holds rules

-- a rule stands in the list, it holds, and none before it does
pub record IsFirst {R : Type 0} (holds : R → Bool) (rules : List R) (rule : R) : Type 0 where
  pub earlier : List R
  pub later : List R
  pub order : rules ≡ earlier ++ rule ∷ later
  pub condition : holds rule ≡ true
  pub others : NoneHolds holds earlier
