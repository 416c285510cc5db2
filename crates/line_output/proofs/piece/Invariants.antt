use Rattle.std.proofs.Common.{◌-◌, length, take}
use Rattle.line_stream.specs.State.{state_of}
use Rattle.line_stream.proofs.Going.{Going}
use Rattle.line_output.proofs.Said.{Said}
use Rattle.line_output.proofs.piece.Given as goal

abbrev pub invariant-loop-at : goal.invariant-loop-at
invariant-loop-at g l =
    Going g.P.AnswersLines.program (state_of l.initial.on) (take l.initial.have l.initial.kept) l.s l.initial.out (state_of l.on) (take l.have l.kept) l.out l.at
    × Said g.P.AnswersLines.program (state_of l.initial.on) (take l.initial.have l.initial.kept) l.s (g.W.Write.contents l.initial.to) (g.W.Write.contents l.to) (state_of l.on) (take l.have l.kept) l.at

abbrev pub decreases-loop-at : goal.decreases-loop-at
decreases-loop-at g l = length l.s - l.at
