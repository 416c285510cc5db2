use Rattle.std.proofs.Common.{arith, take}
use Rattle.line_stream.specs.State.{state_of}
use Rattle.line_output.proofs.Fed.{none_read, end_failed}
use Rattle.line_output.proofs.turn.Goals as goal

pub returns-in-Err-finish-clause-failed : goal.returns-in-Err-finish-clause-failed
returns-in-Err-finish-clause-failed g c =
    let a = g.R.Read.remaining c.args.from.now in
    let b = g.R.Read.remaining c.read.new.from in
    end_failed g.P.AnswersLines.program (state_of c.args.on.now) (take c.args.have c.args.kept.now) a b (g.W.Write.contents c.args.to.now) (g.W.Write.contents c.finish.new.to)
    (none_read c.in-Ok.n a b c.read.new.input (omega (arith, c.if-n-eq0.true)) c.in-Ok.ensures.taken) c.in-Err-finish.ensures.cut
