use mathlib.Core.Path.{ap}
use Rattle.reply.specs.Outcome.{RadioResult, with_radio}
use Rattle.model.specs.Step.{step_result, from_radio, act_of}
use Rattle.model.proofs.by_frame.Goals as goal

-- src/lib.rt:128:1
pub returns : goal.returns
unfolding act_of
returns c =
    let a = c.args in
    rw (c.from_radio.ensures, ← c.transfer_at-transfer.ensures)
    (ap (λ (e : RadioResult). step_result (from_radio e.answer) (with_radio e.side a.t) e.memory e.buffer) c.radio-o.ensures)
