use mathlib.Core.Path.{ap}
use Rattle.effect.specs.Effect.{LegResult}
use Rattle.signal.specs.declared.WireAnswer.TheVariants.{Nothing}
use Rattle.signal.specs.Signal.{wire_result, due_of, stop_at}
use Rattle.signal.proofs.stop_at.Goals as goal

pub returns-in-DataLeg : goal.returns-in-DataLeg
unfolding stop_at due_of
returns-in-DataLeg c =
    rw c.in-DataLeg.is (rw c.with_bus-next.ensures at (ap (λ (r : LegResult). wire_result Nothing r.side r.memory) c.stop_write.ensures))
