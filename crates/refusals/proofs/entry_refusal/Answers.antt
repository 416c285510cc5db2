use mathlib.Core.Path.{sym, ◌∙◌}
use Rattle.refusals.specs.Call.{handed_in}
use Rattle.refusals.specs.Refusals.{call_rules, later_rules}
use Rattle.refusals.proofs.Laws.{append_none, refused_first}
use Rattle.refusals.proofs.entry_refusal.Goals as goal

pub returns-in_err-call_refusal : goal.returns-in_err-call_refusal
returns-in_err-call_refusal c =
    let a = c.args in
    let call = handed_in a.out.now a.code a.value a.frame.now in
    refused_first (call_rules a.m.now call) (later_rules a.t a.m.now call) _ _ c.from_residual.ensures.1 (sym c.call_refusal.ensures ∙ c.in_err-call_refusal.was)

pub returns : goal.returns
returns c =
    let a = c.args in
    let call = handed_in a.out.now a.code a.value a.frame.now in
    c.later_refusal.ensures
    ∙ sym (append_none (call_rules a.m.now call) (later_rules a.t a.m.now call) (sym c.call_refusal.ensures ∙ c.in_ok-call_refusal.was))
