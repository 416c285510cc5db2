-- A call over a tag's bytes is the model's call of that tag. Assumes nothing.
use mathlib.Core.Path.{◌≡◌, refl, sym, ap, subst, ◌∙◌}
use mathlib.Core.Bool.{true, not}
use mathlib.Core.List.{List, [], ◌∷◌}
use Prim.Native.Nat.{ℕ}
use lib.Dec.{eqb}
use lib.ListN.{length}
use Rattle.std.specs.Prelude.{Ok, Err}
use Rattle.parts.specs.Pick.{pick}
use Rattle.tag.specs.declared.Tag.{Tag}
use Rattle.state.specs.Layout.{state_bytes, bytes_of, decodes, tag_of}
use Rattle.state.proofs.There.{decodes_encoded}
use Rattle.state.proofs.Again.{parted}
use Rattle.refusals.specs.declared.Refusal.{Refusal}
use Rattle.refusals.specs.Call.{Call}
use Rattle.refusals.specs.Refusals.{call_rules, later_rules, judgement, unless_refused, Judgement}
use Rattle.refusals.proofs.Laws.{judgement_append, append_idle, NoneApplies}
use Rattle.model.specs.Step.{StepResult, is_refused, refused, act_of, step_of}
use Rattle.model.proofs.Acts.{signal_of_call}
use Rattle.capi.specs.Interface.{answer_number, CallResult, call_result, step_call}
use Rattle.next_state.specs.After.{state_after}
use Rattle.library_refusals.specs.Rules.{state_rule, decodes_rule}
use Rattle.capi.specs.Claims.{StepsTheTag}

-- bytes that decode have their length
pub decodes_length : (s : List ℕ) → decodes s ≡ true → eqb (length s) state_bytes ≡ true
decodes_length s h = (parted s h).long

-- what a call leaves of the model's outcome
abbrev called_by : List ℕ → StepResult → CallResult
called_by s e = call_result (answer_number e.answer) (state_after s e.answer e.tag) e.memory e.reply

-- refusals that a function of the outcome gives, judged once more inside it
pub twice : {A B : Type 0} (f : A → B) (j q : Judgement) (refuses : Refusal → A) (serves : A)
    → unless_refused j (λ r. f (refuses r)) (f (unless_refused (unless_refused j Err q) refuses serves)) ≡ f (unless_refused (unless_refused j Err q) refuses serves)
unfolding unless_refused
twice f (Ok tt) q refuses serves = refl
twice f (Err r) q refuses serves = refl

decoded : (s m : List ℕ) (c : Call) → eqb (length s) state_bytes ≡ true → decodes s ≡ true
    → step_call s m c ≡ called_by s (step_of (tag_of s) m c)
unfolding step_call step_of answer_number is_refused state_after pick NoneApplies
decoded s m c l d =
    let rules = call_rules m c in
    let later = later_rules (tag_of s) m c in
    let refuses : Refusal → StepResult = λ r. refused r (tag_of s) m c.buffer in
    let serves = act_of (signal_of_call c) (tag_of s) m c.buffer c.frame in
    ap (λ (k : Judgement). unless_refused k (λ (r : Refusal). called_by s (refuses r)) (called_by s (step_of (tag_of s) m c)))
    (append_idle rules (state_rule s ∷ decodes_rule s ∷ []) (ap not l, (ap not d, tt)))
    ∙ subst (λ (k : Judgement). unless_refused (judgement rules) (λ (r : Refusal). called_by s (refuses r)) (called_by s (unless_refused k refuses serves)) ≡ called_by s (unless_refused k refuses serves))
    (sym (judgement_append rules later)) (twice (called_by s) (judgement rules) (judgement later) refuses serves)

pub steps_the_tag : StepsTheTag
steps_the_tag t m c fits =
    let d = decodes_encoded t fits in
    decoded (bytes_of t) m c (decodes_length (bytes_of t) d.0) d.0
    ∙ ap (λ (x : Tag). called_by (bytes_of t) (step_of x m c)) d.1
