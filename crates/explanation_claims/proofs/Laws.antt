-- Laws of the first of a list that the claim rests on. Assumes nothing.
use mathlib.Core.Path.{◌≡◌, refl, sym, ap, ◌∙◌}
use mathlib.Core.Bool.{Bool, true, false, not, ◌&&◌, ◌||◌}
use mathlib.Core.List.{List, [], ◌∷◌}
use Prim.Native.Nat.{ℕ}
use native.Mathlib.Omega.{arith}
use Rattle.parts.specs.Pick.{pick}
use Rattle.rule_list.specs.RuleList.{any_holds, first_says, IsFirst}
use Rattle.rule_list.proofs.Laws.{any_says, says_through}
use Rattle.rule_list.proofs.First.{by_first}
use Rattle.rule_names.specs.Rules.{Rule, own_silence}
use Rattle.explanation_rules.specs.Explanation.{Explained, unexplained, explained_by}
use Rattle.explanation_claims.specs.Claims.{is_explained}

-- where all rules say the same
pub same_says : {R A : Type 0} (holds : R → Bool) (x last : A) (rs : List R) → first_says holds (λ r. x) last rs ≡ pick (any_holds holds rs) x last
unfolding first_says any_holds pick
same_says holds x last [] = refl
same_says holds x last (r ∷ rs) = more (holds r) (same_says holds x last rs)
  where
    more : (b : Bool) → first_says holds (λ q. x) last rs ≡ pick (any_holds holds rs) x last
        → pick b x (first_says holds (λ q. x) last rs) ≡ pick (b || any_holds holds rs) x last
    more true e = refl
    more false e = e

-- a rule is named where one holds
pub explained_any : (holds : Rule → Bool) (rs : List Rule) → is_explained (first_says holds explained_by unexplained rs) ≡ any_holds holds rs
unfolding is_explained
explained_any holds rs = says_through is_explained holds explained_by unexplained rs ∙ sym (any_says holds rs)

-- the rule of an explanation
rule_in : Explained → Rule
rule_in unexplained = own_silence
rule_in (explained_by rule) = rule

own : (rule other : Rule) → explained_by rule ≡ explained_by other → rule ≡ other
unfolding rule_in
own rule other h = ap rule_in h

tag_of : Explained → ℕ
tag_of unexplained = 0
tag_of (explained_by rule) = 1

apart : (rule : Rule) → explained_by rule ≡ unexplained → ⊥
unfolding tag_of
apart rule h = let e : ◌≡◌ {A = ℕ} 1 0 = ap tag_of h in omega arith

-- it is the first that holds
pub explained_first : (holds : Rule → Bool) (rs : List Rule) (rule : Rule) → first_says holds explained_by unexplained rs ≡ explained_by rule → IsFirst holds rs rule
explained_first holds rs rule h = (by_first Rule Explained holds explained_by unexplained own apart rs rule).0 h

-- who hears an inventory frame, and answers it, is not silent by a rule; x is said by an answer, y by silence
pub heard_says : {A : Type 0} (x y : A) (field sleep quiet shut bad good malformed answers : Bool)
    → pick (field && not sleep && not quiet && not shut && not bad && good && not malformed) (pick answers x y) y
    ≡ pick (not field || (sleep || (bad || (not good || false)))) y (pick (malformed || quiet || shut || not answers) y x)
unfolding pick
heard_says x y true true quiet shut bad good malformed answers = refl
heard_says x y true false true true true good malformed answers = refl
heard_says x y true false true true false true true answers = refl
heard_says x y true false true true false true false answers = refl
heard_says x y true false true true false false malformed answers = refl
heard_says x y true false true false true good malformed answers = refl
heard_says x y true false true false false true true answers = refl
heard_says x y true false true false false true false answers = refl
heard_says x y true false true false false false malformed answers = refl
heard_says x y true false false true true good malformed answers = refl
heard_says x y true false false true false true true answers = refl
heard_says x y true false false true false true false answers = refl
heard_says x y true false false true false false malformed answers = refl
heard_says x y true false false false true good malformed answers = refl
heard_says x y true false false false false true true answers = refl
heard_says x y true false false false false true false true = refl
heard_says x y true false false false false true false false = refl
heard_says x y true false false false false false malformed answers = refl
heard_says x y false sleep quiet shut bad good malformed answers = refl
