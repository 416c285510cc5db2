use Rattle.bus.specs.Bus.{is_active}
use Rattle.bus.proofs.Buses.{active}
use Rattle.bus.proofs.is_active.Goals as goal
use Rattle.bus.proofs.is_active.Goals.{in-Idle, in_default}

pub returns : goal.returns
unfolding is_active
returns c =
    elim c.match-matches.branch [ in-Idle w ↦ rw (w.matches-is, w.in-Idle.is) | in_default w ↦ rw w.matches-is (active c.args.b w.in_default.not-Idle) ]
