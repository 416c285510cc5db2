-- What is proved of lists of rules, whatever the rules.
use Rattle.std.specs.Prelude.{◌≡◌, Bool, List, ◌↔◌}
use Rattle.rule_list.specs.RuleList.{first_says, NoneHolds, IsFirst}

-- where each rule says something of its own and not what is said where none holds, what is said is a rule's exactly when it is the first that holds
abbrev pub SaidByFirst : Type 1
SaidByFirst = (R A : Type 0) (holds : R → Bool) (says : R → A) (last : A) → ((rule other : R) → says rule ≡ says other → rule ≡ other) → ((rule : R) → says rule ≡ last → ⊥)
    → (rules : List R) (rule : R) → (first_says holds says last rules ≡ says rule) ↔ IsFirst holds rules rule

-- and that no rule said it, exactly when none holds
abbrev pub SaidByNone : Type 1
SaidByNone = (R A : Type 0) (holds : R → Bool) (says : R → A) (last : A) → ((rule : R) → says rule ≡ last → ⊥)
    → (rules : List R) → (first_says holds says last rules ≡ last) ↔ NoneHolds holds rules
