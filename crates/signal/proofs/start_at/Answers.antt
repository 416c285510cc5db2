use mathlib.Core.Path.{ap}
use Rattle.effect.specs.Effect.{LegResult}
use Rattle.signal.specs.declared.WireAnswer.TheVariants.{Nothing}
use Rattle.signal.specs.Signal.{wire_result, due_of, start_at}
use Rattle.signal.proofs.start_at.Goals as goal

pub returns-in-DataLeg : goal.returns-in-DataLeg
unfolding start_at due_of
returns-in-DataLeg c =
    rw c.in-DataLeg.is (rw (c.started-next.ensures, c.in-DataLeg.is) at (ap (λ (r : LegResult). wire_result Nothing r.side r.memory) c.start_write.ensures))
