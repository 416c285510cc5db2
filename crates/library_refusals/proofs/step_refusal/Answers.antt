use mathlib.Core.Path.{sym, ◌∙◌}
use mathlib.Core.List.{[], ◌∷◌}
use Rattle.parts.proofs.Picks.{picks}
use Rattle.rule_list.specs.RuleList.{first_says}
use Rattle.refusals.specs.Call.{handed_in}
use Rattle.refusals.specs.Refusals.{call_rules, judgement}
use Rattle.refusals.proofs.Laws.{append_none, refused_first}
use Rattle.library_refusals.specs.Rules.{state_rule, decodes_rule}
use Rattle.library_refusals.proofs.step_refusal.Goals as goal

pub returns-then-s-ne-STATE_BYTES : goal.returns-then-s-ne-STATE_BYTES
unfolding judgement first_says
returns-then-s-ne-STATE_BYTES c =
    let a = c.args in
    let first = call_rules a.m.now (handed_in a.out.now a.code a.value a.frame.now) in
    let rest = state_rule a.s.now ∷ decodes_rule a.s.now ∷ [] in
    rw (append_none first rest (sym c.call_refusal.ensures ∙ c.in_ok-call_refusal.was)) (search picks depth 20)

pub returns-then-not-decodes : goal.returns-then-not-decodes
unfolding judgement first_says
returns-then-not-decodes c =
    let a = c.args in
    let first = call_rules a.m.now (handed_in a.out.now a.code a.value a.frame.now) in
    let rest = state_rule a.s.now ∷ decodes_rule a.s.now ∷ [] in
    rw (append_none first rest (sym c.call_refusal.ensures ∙ c.in_ok-call_refusal.was), ← c.decodes.ensures) (search picks depth 20)

pub returns-in_err-call_refusal : goal.returns-in_err-call_refusal
returns-in_err-call_refusal c =
    let a = c.args in
    let first = call_rules a.m.now (handed_in a.out.now a.code a.value a.frame.now) in
    let rest = state_rule a.s.now ∷ decodes_rule a.s.now ∷ [] in
    refused_first first rest _ _ c.from_residual.ensures.1 (sym c.call_refusal.ensures ∙ c.in_err-call_refusal.was)

pub returns : goal.returns
unfolding judgement first_says
returns c =
    let a = c.args in
    let first = call_rules a.m.now (handed_in a.out.now a.code a.value a.frame.now) in
    let rest = state_rule a.s.now ∷ decodes_rule a.s.now ∷ [] in
    rw (append_none first rest (sym c.call_refusal.ensures ∙ c.in_ok-call_refusal.was), ← c.decodes.ensures) (search picks depth 20)
