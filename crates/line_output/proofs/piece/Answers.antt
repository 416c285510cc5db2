use Rattle.std.proofs.Common.{arith, take, true}
use Rattle.std.proofs.lemmas.Result.{err_from_is_err_and}
use Rattle.line_stream.specs.State.{state_of}
use Rattle.line_stream.specs.Step.{stream_buffers}
use Rattle.line_stream.proofs.Going.{used_some, goes, all_used}
use Rattle.line_output.proofs.Said.{all_said, says_on, some_said}
use Rattle.line_output.proofs.piece.Goals as goal

pub returns-in_err-write_all-clause-cut : goal.returns-in_err-write_all-clause-cut
returns-in_err-write_all-clause-cut g c =
    let l = c.loop-at in
    let t = c.step-t in
    let p = err_from_is_err_and c.from_residual.result c.from_residual.ensures.1 in
    rw p.1 (some_said g.P.AnswersLines.program _ _ _ _ _ _ _ _ l.out l.at l.invariant.1 (stream_buffers (state_of t.new.on) (take t.result.have t.new.kept) t.result.used t.result.wrote t.new.out) t.ensures.out_after t.ensures.used_in_bounds.1 c.in_err-write_all.ensures.failed)

pub loop-at-smaller : goal.loop-at-smaller
loop-at-smaller g c =
    let l = c.loop-at in
    let t = c.step-t in
    omega (
      arith,
      used_some g.P.AnswersLines.program _ _ _ _ _ _ l.out l.at l.invariant.0 (stream_buffers (state_of t.new.on) (take t.result.have t.new.kept) t.result.used t.result.wrote t.new.out) t.ensures.out_after (omega (arith, l.invariant.0.out_len, c.requires)) c.loop-at-test.true,
      c.loop-at-test.true,
    )

pub loop-at-preserved : goal.loop-at-preserved
loop-at-preserved g c =
    let l = c.loop-at in
    let t = c.step-t in
    let left = stream_buffers (state_of t.new.on) (take t.result.have t.new.kept) t.result.used t.result.wrote t.new.out in
    (goes g.P.AnswersLines.program _ _ _ _ _ _ l.out l.at l.invariant.0 left t.ensures.out_after t.ensures.used_in_bounds.0 t.new.out t.auto.out, says_on g.P.AnswersLines.program _ _ _ _ _ _ _ _ l.out l.at l.invariant.1 left t.ensures.out_after t.ensures.used_in_bounds.1 c.in_ok-write_all.ensures.all)

pub returns-clause-reached : goal.returns-clause-reached
returns-clause-reached g c =
    let l = c.loop-at in
    all_used g.P.AnswersLines.program _ _ _ _ _ _ l.out l.at l.invariant.0 c.loop-at-test.false true

pub returns-clause-said : goal.returns-clause-said
returns-clause-said g c =
    let l = c.loop-at in
    all_said g.P.AnswersLines.program _ _ _ _ _ _ _ l.at l.invariant.1 c.loop-at-test.false
