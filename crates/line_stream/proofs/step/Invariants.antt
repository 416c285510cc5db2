use Prim.Native.Nat.{◌-◌}
use mathlib.Core.Path.{◌≡◌}
use lib.ListN.{length, take}
use Rattle.line_stream.specs.State.{state_of}
use Rattle.line_stream.proofs.Turn.{Goes}
use Rattle.line_stream.proofs.step.Given as goal

abbrev pub invariant-loop-end : goal.invariant-loop-end
invariant-loop-end g l =
    ((l.on.memory.ghost_name ≡ l.initial.on.memory.ghost_name) × (l.on.reply.ghost_name ≡ l.initial.on.reply.ghost_name))
    × Goes g.P.AnswersLines.program (state_of l.initial.on) (take l.initial.n l.initial.kept) l.s l.initial.out (state_of l.on) l.kept l.out l.n l.from l.at l.end

abbrev pub decreases-loop-end : goal.decreases-loop-end
decreases-loop-end g l = length l.s - l.end
