use mathlib.Core.Path.{ap}
use Rattle.signal.specs.Signal.{WireResult}
use Rattle.model.specs.Step.{fresh_result, from_wire}
use Rattle.tag.specs.Parts.{with_wire}
use Rattle.model.proofs.by_wire.Goals as goal

-- src/lib.rt:98:1
pub returns : goal.returns
returns c =
    let a = c.args in
    rw c.from_wire.ensures
    (ap (λ (e : WireResult). fresh_result (from_wire e.answer) (with_wire e.side a.t) e.memory) c.step-o.ensures)
