use mathlib.Core.Path.{ap}
use Rattle.model.specs.Step.{FreshResult, step_result, act_of}
use Rattle.model.proofs.act.Goals as goal

-- src/lib.rt:159:1
pub returns-in-Wire : goal.returns-in-Wire
unfolding act_of
returns-in-Wire c =
    let a = c.args in
    rw c.in-Wire.is
    (ap (λ (e : FreshResult). step_result e.answer e.tag e.memory a.out.now) c.by_wire.ensures)

-- src/lib.rt:159:1
pub returns-in-Field : goal.returns-in-Field
unfolding act_of
returns-in-Field c = rw (c.by_field.ensures, c.in-Field.is)

-- src/lib.rt:159:1
pub returns-in-Frame : goal.returns-in-Frame
returns-in-Frame c =
    rw c.in-Frame.is c.by_frame.ensures

pub returns-in-EndOfFrame : goal.returns-in-EndOfFrame
returns-in-EndOfFrame c =
    rw c.in-EndOfFrame.is c.by_end_of_frame.ensures
