-- Laws of what judging finds. Assumes nothing.
use mathlib.Core.Path.{◌≡◌, refl, sym, ap, ◌∙◌}
use mathlib.Core.Bool.{Bool, true, false, false≢true}
use mathlib.Core.List.{List, [], ◌∷◌, ◌++◌}
use lib.Dec.{eqb}
use Rattle.std.specs.Prelude.{Ok, Err, IsErrAnd}
use Rattle.std.proofs.lemmas.Result.{err_from_is_err_and}
use Rattle.parts.specs.Pick.{pick}
use Rattle.parts.proofs.Picks.{pick_case}
use Rattle.rule_list.specs.RuleList.{any_holds, first_says}
use Rattle.rule_list.proofs.Laws.{says_passes}
use Rattle.refusals.specs.declared.Refusal.{Refusal}
use Rattle.refusals.specs.Refusals.{number, RefusalRule, judgement, unless_refused, Judgement}

-- ---- what a call gives, from what it gives refused and not
pub judged_case : {A : Type 0} (P : A → Type 0) (j : Judgement) (refuses : Refusal → A) (serves : A)
    → ((r : Refusal) → j ≡ Err r → P (refuses r)) → (j ≡ Ok tt → P serves) → P (unless_refused j refuses serves)
unfolding unless_refused
judged_case P (Ok tt) refuses serves p q = q refl
judged_case P (Err r) refuses serves p q = p r refl

-- a function of it
pub judged_map : {A B : Type 0} (f : A → B) (j : Judgement) (refuses : Refusal → A) (serves : A)
    → f (unless_refused j refuses serves) ≡ unless_refused j (λ r. f (refuses r)) (f serves)
unfolding unless_refused
judged_map f (Ok tt) refuses serves = refl
judged_map f (Err r) refuses serves = refl

-- ---- a list in two parts
by_test : (b : Bool) (r : Refusal) (j k : Judgement) (all : Judgement) → all ≡ unless_refused j Err k
    → pick b (Err r) all ≡ unless_refused (pick b (Err r) j) Err k
unfolding pick unless_refused
by_test true r j k all h = refl
by_test false r j k all h = h

pub judgement_append : (rs qs : List RefusalRule) → judgement (rs ++ qs) ≡ unless_refused (judgement rs) Err (judgement qs)
unfolding judgement first_says unless_refused
judgement_append [] qs = refl
judgement_append (r ∷ rs) qs = by_test r.applies r.refusal (judgement rs) (judgement qs) (judgement (rs ++ qs)) (judgement_append rs qs)

pub append_none : (rs qs : List RefusalRule) → judgement rs ≡ Ok tt → judgement (rs ++ qs) ≡ judgement qs
unfolding unless_refused
append_none rs qs h = judgement_append rs qs ∙ ap (λ (j : Judgement). unless_refused j Err (judgement qs)) h

pub append_refused : (rs qs : List RefusalRule) (r : Refusal) → judgement rs ≡ Err r → judgement (rs ++ qs) ≡ Err r
unfolding unless_refused
append_refused rs qs r h = judgement_append rs qs ∙ ap (λ (j : Judgement). unless_refused j Err (judgement qs)) h

-- what `?` gives where the first rules refuse
pub refused_first : (rs qs : List RefusalRule) (r : Refusal) (j : Judgement) → IsErrAnd j (λ e. e ≡ r) → judgement rs ≡ Err r → j ≡ judgement (rs ++ qs)
refused_first rs qs r j given h = let p = err_from_is_err_and j given in p.1 ∙ ap Err p.2 ∙ sym (append_refused rs qs r h)

-- ---- no refusal, exactly where no rule applies
unfoldable pub NoneApplies : List RefusalRule → Type 0
NoneApplies [] = Unit {0}
NoneApplies (r ∷ rs) = (r.applies ≡ false) × NoneApplies rs

unfoldable is_refusal : Judgement → Bool
is_refusal (Ok tt) = false
is_refusal (Err r) = true

passed : (b : Bool) (r : Refusal) (j : Judgement) → pick b (Err r) j ≡ Ok tt → (b ≡ false) × (j ≡ Ok tt)
unfolding pick is_refusal
passed true r j h = absurd (false≢true (sym (ap is_refusal h)))
passed false r j h = (refl, h)

pub none_applies : (rs : List RefusalRule) → judgement rs ≡ Ok tt → NoneApplies rs
unfolding judgement first_says NoneApplies
none_applies [] h = tt
none_applies (r ∷ rs) h = let p = passed r.applies r.refusal (judgement rs) h in (p.0, none_applies rs p.1)

pub no_refusal : (rs : List RefusalRule) → NoneApplies rs → judgement rs ≡ Ok tt
unfolding judgement first_says NoneApplies pick
no_refusal [] h = refl
no_refusal (r ∷ rs) (h, hs) = rw h (no_refusal rs hs)

-- rules that do not apply
idle : (j : Judgement) → unless_refused j Err (Ok tt) ≡ j
unfolding unless_refused
idle (Ok tt) = refl
idle (Err r) = refl

pub append_idle : (rs qs : List RefusalRule) → NoneApplies qs → judgement (rs ++ qs) ≡ judgement rs
append_idle rs qs h =
    judgement_append rs qs ∙ ap (unless_refused (judgement rs) Err) (no_refusal qs h) ∙ idle (judgement rs)

-- ---- the rule of a refusal, wherever it stands in a list
unfoldable pub applies_of : Refusal → List RefusalRule → Bool
applies_of r rules = first_says (λ (rule : RefusalRule). eqb (number rule.refusal) (number r)) (λ (rule : RefusalRule). rule.applies) false rules

pub not_refused : (r : Refusal) (rs : List RefusalRule) → judgement rs ≡ Ok tt → applies_of r rs ≡ false
unfolding judgement first_says applies_of
not_refused r [] h = refl
not_refused r (q ∷ rs) h =
    let p = passed q.applies q.refusal (judgement rs) h in
    pick_case (λ (b : Bool). b ≡ false) (eqb (number q.refusal) (number r)) _ _ (λ _. p.0) (λ _. not_refused r rs p.1)

-- ---- a refusal that some list gives has what all its rules' refusals have
pub refused_by : (bad : Refusal → Bool) (rs : List RefusalRule) (r : Refusal) → any_holds (λ (rule : RefusalRule). bad rule.refusal) rs ≡ false
    → judgement rs ≡ Err r → bad r ≡ false
unfolding judgement unless_refused
refused_by bad rs r h e =
    let P : Judgement → Type 0 = λ j. unless_refused j bad false ≡ false in
    ap (λ (j : Judgement). unless_refused j bad false) (sym e)
    ∙ says_passes (λ (rule : RefusalRule). rule.applies) (λ (rule : RefusalRule). bad rule.refusal) (λ (rule : RefusalRule). Err rule.refusal) (Ok tt) P rs h (λ _ _ k. k) refl
