use Rattle.std.proofs.Common.{List, ℕ, take, OnOk, OnErr, subst}
use Rattle.std.specs.Io.KnownBytes.{Appends}
use Rattle.console.specs.Written.{AppendsStart}
use Rattle.line_stream.specs.State.{state_of}
use Rattle.line_stream.specs.Step.{stream_buffers}
use Rattle.line_output.proofs.Ended.{end_buffer}
use Rattle.line_output.proofs.finish.Goals as goal

pub returns-clause-said : goal.returns-clause-said
returns-clause-said g c =
    let t = c.end-t in
    let p = g.P.AnswersLines.program in
    let e = end_buffer p (state_of c.args.on.now) (take c.args.have c.args.kept.now) c.args.out.now (stream_buffers (state_of t.new.on) (take t.result.have t.new.kept) t.result.used t.result.wrote t.new.out) t.ensures.out_after t.ensures.wrote_in_bounds c.requires in
    subst (λ (x : List ℕ). OnOk c.write_all.result (Appends (g.W.Write.contents c.args.to.now) (g.W.Write.contents c.write_all.new.to) x)) e c.write_all.ensures.all

pub returns-clause-cut : goal.returns-clause-cut
returns-clause-cut g c =
    let t = c.end-t in
    let p = g.P.AnswersLines.program in
    let e = end_buffer p (state_of c.args.on.now) (take c.args.have c.args.kept.now) c.args.out.now (stream_buffers (state_of t.new.on) (take t.result.have t.new.kept) t.result.used t.result.wrote t.new.out) t.ensures.out_after t.ensures.wrote_in_bounds c.requires in
    subst (λ (x : List ℕ). OnErr c.write_all.result (AppendsStart (g.W.Write.contents c.args.to.now) (g.W.Write.contents c.write_all.new.to) x)) e c.write_all.ensures.failed
