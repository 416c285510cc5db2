use mathlib.Core.Path.{sym, ap, ◌∙◌}
use Rattle.refusals.specs.Refusals.{unless_refused}
use Rattle.model.specs.Step.{FreshResult, fresh_result}
use Rattle.replies_fit.specs.Claims.{reply_fits}
use Rattle.replies_fit.proofs.RepliesFit.{fresh_reply_fits}
use Rattle.capi.specs.Interface.{fresh_call}
use Rattle.capi.proofs.Calls.{number_fits, freshened}
use Rattle.capi.proofs.st25dv_fresh.Goals as goal

pub returns-in-Err : goal.returns-in-Err
unfolding fresh_call unless_refused
returns-in-Err c =
    rw (c.number.ensures, sym c.fresh_call_refusal.ensures ∙ c.in-Err.is)

pub returns-in-Ok : goal.returns-in-Ok
returns-in-Ok c =
    let a = c.args in
    let o = c.fresh-o in
    freshened a.uid.now a.m.now a.s.now (fresh_result o.result.answer o.result.tag o.new.m) c.answer_number.result c.keep.new.s
    (sym c.fresh_call_refusal.ensures ∙ c.in-Ok.is)
    (o.ensures ∙ rw c.at.ensures) (number_fits _ _ (ap (λ (e : FreshResult). reply_fits e.answer) o.ensures ∙ fresh_reply_fits _ _) c.answer_number.ensures) c.keep.ensures
