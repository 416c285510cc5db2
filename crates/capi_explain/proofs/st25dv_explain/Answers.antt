use mathlib.Core.Path.{sym, ◌∙◌}
use Rattle.refusals.specs.Refusals.{unless_refused}
use Rattle.capi_explain.specs.Explain.{explain_call}
use Rattle.capi_explain.proofs.st25dv_explain.Goals as goal

pub returns-in-Err : goal.returns-in-Err
unfolding explain_call unless_refused
returns-in-Err c =
    rw (c.number.ensures, sym c.step_refusal.ensures ∙ c.in-Err.is)

pub returns-in-Ok : goal.returns-in-Ok
unfolding explain_call unless_refused
returns-in-Ok c =
    rw (sym c.step_refusal.ensures ∙ c.in-Ok.is, ← c.decode.ensures) c.explain.ensures
