use mathlib.Core.Path.{sym, ap, ◌∙◌}
use Rattle.refusals.specs.Call.{handed_in}
use Rattle.refusals.specs.Refusals.{unless_refused}
use Rattle.model.specs.Step.{StepResult, step_result_of}
use Rattle.replies_fit.specs.Claims.{reply_fits}
use Rattle.replies_fit.proofs.RepliesFit.{steps_fit}
use Rattle.capi.specs.Interface.{step_call}
use Rattle.capi.proofs.Calls.{number_fits, stepped}
use Rattle.capi.proofs.st25dv_step.Goals as goal

pub returns-in-Err : goal.returns-in-Err
unfolding step_call unless_refused
returns-in-Err c =
    rw (c.number.ensures, sym c.step_refusal.ensures ∙ c.in-Err.is)

pub returns-in-Ok : goal.returns-in-Ok
returns-in-Ok c =
    let a = c.args in
    let o = c.step-o in
    stepped a.s.now a.m.now (handed_in a.out.now a.code a.value a.frame.now) (step_result_of o.result o.new.m o.new.out) c.answer_number.result c.keep.new.s
    (sym c.step_refusal.ensures ∙ c.in-Ok.is)
    (o.ensures ∙ rw c.decode-t.ensures) (number_fits _ _ (ap (λ (e : StepResult). reply_fits e.answer) o.ensures ∙ steps_fit _ _ _) c.answer_number.ensures) c.keep.ensures
