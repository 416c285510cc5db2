use mathlib.Core.Path.{sym, ◌∙◌}
use Rattle.refusals.specs.Refusals.{unless_refused}
use Rattle.capi_explain.specs.Explain.{explain_of}
use Rattle.capi_explain.proofs.explain.Goals as goal

pub returns-in-Err : goal.returns-in-Err
unfolding explain_of unless_refused
returns-in-Err c =
    rw (c.number.ensures, sym c.entry_refusal.ensures ∙ c.in-Err.is)

pub returns-in-Ok : goal.returns-in-Ok
unfolding explain_of unless_refused
returns-in-Ok c =
    rw (c.rule_of.ensures, sym c.entry_refusal.ensures ∙ c.in-Ok.is)
