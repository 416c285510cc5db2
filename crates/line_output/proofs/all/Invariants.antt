-- The buffers keep their lengths, and each read so far brought a byte or more, whose texts were written.
use Rattle.std.proofs.Common.{◌≡◌, [], length, take}
use Rattle.line_stream.specs.State.{state_of}
use Rattle.line_stream.specs.Flow.{flow_of}
use Rattle.line_output.specs.Answered.{Feeds}
use Rattle.line_output.proofs.all.Given as goal

abbrev pub invariant-loop-reads : goal.invariant-loop-reads
invariant-loop-reads g l =
    (length l.input ≡ length l.initial.input)
    × (length l.out ≡ length l.initial.out)
    × Feeds (flow_of g.P.AnswersLines.program (state_of l.initial.on) []) l._reads (g.R.Read.remaining l.initial.from) (g.R.Read.remaining l.from) (g.W.Write.contents l.initial.to) (g.W.Write.contents l.to) (state_of l.on) (take l.have l.kept)
