use mathlib.Core.Path.{sym, ◌∙◌}
use Rattle.refusals.specs.Refusals.{unless_refused}
use Rattle.model.specs.Step.{step_of}
use Rattle.model.proofs.step.Goals as goal

pub returns-in-Err : goal.returns-in-Err
unfolding step_of unless_refused
returns-in-Err c =
    rw (c.refused.ensures, sym c.entry_refusal.ensures ∙ c.in-Err.is)

pub returns-in-Ok : goal.returns-in-Ok
unfolding step_of unless_refused
returns-in-Ok c =
    rw (sym c.entry_refusal.ensures ∙ c.in-Ok.is, ← c.signal_by.ensures) c.act.ensures
