use mathlib.Core.Path.{sym, ◌∙◌}
use Rattle.refusals.specs.Refusals.{unless_refused}
use Rattle.model.specs.Step.{fresh_of}
use Rattle.model.proofs.Acts.{fresh_size}
use Rattle.model.proofs.fresh.Goals as goal

pub returns-in-Err : goal.returns-in-Err
unfolding fresh_of unless_refused
returns-in-Err c =
    rw (c.refused.ensures, c.fresh-t.ensures, sym c.fresh_refusal.ensures ∙ c.in-Err.is)

pub returns-in-Ok : goal.returns-in-Ok
unfolding fresh_of unless_refused
returns-in-Ok c =
    let m = c.args.m.now in
    let none = sym c.fresh_refusal.ensures ∙ c.in-Ok.is in
    rw (none, c.fill.ensures.after (λ y same. same), fresh_size m none, c.fresh-t.ensures)
