-- An explanation is refused as the step is, and is the tag's. Assumes nothing.
use Prim.{tt}
use mathlib.Core.Path.{◌≡◌, sym, ap, subst, ◌∙◌}
use mathlib.Core.Bool.{false, not, false≢true}
use mathlib.Core.List.{[], ◌∷◌}
use Prim.Native.Nat.{ℕ, ◌+◌, ◌≤◌, ◌<◌}
use Rattle.std.specs.Prelude.{Ok, Err}
use native.Mathlib.Omega.{arith}
use Rattle.tag.specs.declared.Tag.{Tag}
use Rattle.state.specs.Layout.{bytes_of, tag_of}
use Rattle.state.proofs.There.{decodes_encoded}
use Rattle.refusals.specs.declared.Refusal.{Refusal}
use Rattle.refusals.specs.Refusals.{number, call_rules, later_rules, entry_rules, judgement, unless_refused, Judgement}
use Rattle.refusals.proofs.Laws.{judged_map, judgement_append, append_idle, NoneApplies}
use Rattle.library_refusals.specs.Rules.{state_rule, decodes_rule, step_rules}
use Rattle.explanation_rules.specs.Explanation.{rule_at}
use Rattle.model.specs.declared.Answer.{Answer}
use Rattle.model.specs.declared.Answer.TheVariants.{Refused, Nothing, Ack, NoAck, Byte, Silence, Reply}
use Rattle.model.specs.Step.{StepResult, refused, is_refused, act_of, step_of}
use Rattle.model.proofs.Acts.{signal_of_call}
use Rattle.model.proofs.Served.{act_served}
use Rattle.capi.specs.Interface.{answer_number, CallResult, step_call}
use Rattle.capi_explain.specs.Explain.{explain_of, explain_call}
use Rattle.capi_explain.specs.Claims.{ExplainRefusesAlike, ExplainsTheTag}
use Rattle.capi.proofs.Tags.{decodes_length, twice}

-- an answer that is no refusal has a number from 0x100 on
served_number : (a : Answer) → is_refused a ≡ false → 0x100 ≤ answer_number a
unfolding answer_number is_refused
served_number (Refused r) h = absurd (false≢true (sym h))
served_number Nothing h = omega arith
served_number Ack h = omega arith
served_number NoAck h = omega arith
served_number (Byte x) h = omega arith
served_number Silence h = omega arith
served_number (Reply n) h = omega arith

-- two numbers under the same judgements
alike : (j k : Judgement) (x y n : ℕ) → 0x100 ≤ x → 0x100 ≤ y → n ≡ unless_refused j number (unless_refused k number x)
    → let e = unless_refused j number (unless_refused k number y) in (n < 0x100 → e ≡ n) × (0x100 ≤ n → 0x100 ≤ e)
unfolding unless_refused
alike (Err r) k x y n h g e = (λ _. sym e, λ l. subst (λ (z : ℕ). 0x100 ≤ z) e l)
alike (Ok tt) (Err r) x y n h g e = (λ _. sym e, λ l. subst (λ (z : ℕ). 0x100 ≤ z) e l)
alike (Ok tt) (Ok _) x y n h g e = (λ l. absurd (omega arith), λ _. g)

pub explain_refuses_alike : ExplainRefusesAlike
unfolding step_call step_of explain_call explain_of answer_number
explain_refuses_alike s m c =
    let t = tag_of s in
    let rules = judgement (step_rules s m c) in
    let entry = judgement (entry_rules t m c) in
    let serves = act_of (signal_of_call c) t m c.buffer c.frame in
    let refuses : Refusal → StepResult = λ r. refused r t m c.buffer in
    alike rules entry (answer_number serves.answer) (0x100 + rule_at t m c.code c.value c.frame) (step_call s m c).number
    (served_number serves.answer (act_served (signal_of_call c) t m c.buffer c.frame)) (omega arith)
    (judged_map (λ (x : CallResult). x.number) rules _ _
    ∙ ap (unless_refused rules number) (judged_map (λ (x : StepResult). answer_number x.answer) entry refuses serves))

pub explains_the_tag : ExplainsTheTag
unfolding explain_call explain_of NoneApplies
explains_the_tag t m c fits =
    let d = decodes_encoded t fits in
    let s = bytes_of t in
    let rules = call_rules m c in
    let later = later_rules t m c in
    let named = 0x100 + rule_at t m c.code c.value c.frame in
    ap (λ (x : Tag). unless_refused (judgement (step_rules s m c)) number (explain_of x m c)) d.1
    ∙ ap (λ (k : Judgement). unless_refused k number (explain_of t m c)) (append_idle rules (state_rule s ∷ decodes_rule s ∷ []) (ap not (decodes_length s d.0), (ap not d.0, tt)))
    ∙ subst (λ (k : Judgement). unless_refused (judgement rules) number (unless_refused k number named) ≡ unless_refused k number named) (sym (judgement_append rules later))
    (twice (λ (n : ℕ). n) (judgement rules) (judgement later) number named)
