use mathlib.Core.Path.{sym, ◌∙◌}
use mathlib.Core.List.{[], ◌∷◌}
use Rattle.parts.proofs.Picks.{picks}
use Rattle.rule_list.specs.RuleList.{first_says}
use Rattle.refusals.specs.Refusals.{fresh_rules, judgement}
use Rattle.refusals.proofs.Laws.{append_none, refused_first}
use Rattle.library_refusals.specs.Rules.{state_rule, uid_rule}
use Rattle.library_refusals.proofs.fresh_call_refusal.Goals as goal

pub returns-then-s-ne-STATE_BYTES : goal.returns-then-s-ne-STATE_BYTES
unfolding judgement first_says
returns-then-s-ne-STATE_BYTES c =
    let a = c.args in
    let first = fresh_rules a.m.now in
    let rest = state_rule a.s.now ∷ uid_rule a.uid.now ∷ [] in
    rw (append_none first rest (sym c.fresh_refusal.ensures ∙ c.in_ok-fresh_refusal.was)) (search picks depth 20)

pub returns-then-uid-ne8 : goal.returns-then-uid-ne8
unfolding judgement first_says
returns-then-uid-ne8 c =
    let a = c.args in
    let first = fresh_rules a.m.now in
    let rest = state_rule a.s.now ∷ uid_rule a.uid.now ∷ [] in
    rw (append_none first rest (sym c.fresh_refusal.ensures ∙ c.in_ok-fresh_refusal.was)) (search picks depth 20)

pub returns-in_err-fresh_refusal : goal.returns-in_err-fresh_refusal
returns-in_err-fresh_refusal c =
    let a = c.args in
    let first = fresh_rules a.m.now in
    let rest = state_rule a.s.now ∷ uid_rule a.uid.now ∷ [] in
    refused_first first rest _ _ c.from_residual.ensures.1 (sym c.fresh_refusal.ensures ∙ c.in_err-fresh_refusal.was)

pub returns : goal.returns
unfolding judgement first_says
returns c =
    let a = c.args in
    let first = fresh_rules a.m.now in
    let rest = state_rule a.s.now ∷ uid_rule a.uid.now ∷ [] in
    rw (append_none first rest (sym c.fresh_refusal.ensures ∙ c.in_ok-fresh_refusal.was)) (search picks depth 20)
