use Rattle.std.proofs.Common.{[], take, refl, ◌∙◌, arith}
use Rattle.line_stream.specs.State.{state_of}
use Rattle.line_output.proofs.Fed.{nothing_fed, fed_more, run_failed, run_ended, run_stopped}
use Rattle.line_output.proofs.all.Goals as goal

pub loop-reads-init : goal.loop-reads-init
loop-reads-init g c =
    (refl, refl, nothing_fed g.P.AnswersLines.program (state_of c.args.on.now) [] (g.R.Read.remaining c.args.from.now) (g.W.Write.contents c.args.to.now))

pub loop-reads-preserved : goal.loop-reads-preserved
loop-reads-preserved g c =
    let l = c.loop-reads in
    let t = c.turn in
    let fed = rw c.in-Some.is at c.in_ok-n.ensures.fed in (
      t.auto.input ∙ l.invariant.0,
      t.auto.out ∙ l.invariant.1,
      fed_more g.P.AnswersLines.program (state_of c.args.on.now) [] l._reads (g.R.Read.remaining c.args.from.now) (g.R.Read.remaining l.from) (g.W.Write.contents c.args.to.now) (g.W.Write.contents l.to) (state_of l.on) (take l.have l.kept) l.invariant.2
          (g.R.Read.remaining t.new.from) (g.W.Write.contents t.new.to) (state_of t.new.on) (take c.in-Some.n t.new.kept) fed,
    )

pub returns-in_err-n-clause-answered : goal.returns-in_err-n-clause-answered
returns-in_err-n-clause-answered g c =
    let l = c.loop-reads in
    run_failed g.P.AnswersLines.program g.met.P.AnswersLines.tells (state_of c.args.on.now) (g.R.Read.remaining c.args.from.now) (g.W.Write.contents c.args.to.now) l._reads (g.R.Read.remaining l.from) (g.W.Write.contents l.to) (state_of l.on) (take l.have l.kept) l.invariant.2
    (g.R.Read.remaining c.turn.new.from) (g.W.Write.contents c.turn.new.to) c.in_err-n.ensures.failed

pub returns-in-None : goal.returns-in-None
returns-in-None g c =
    let l = c.loop-reads in
    let e = run_ended g.P.AnswersLines.program g.met.P.AnswersLines.tells (state_of c.args.on.now) (g.R.Read.remaining c.args.from.now) (g.W.Write.contents c.args.to.now) l._reads (g.R.Read.remaining l.from) (g.W.Write.contents l.to) (state_of l.on) (take l.have l.kept) l.invariant.2
    (g.R.Read.remaining c.turn.new.from) (g.W.Write.contents c.turn.new.to) (rw c.in-None.is at c.in_ok-n.ensures.ended) in
    record { answered = e.0; whole = e.1 }

pub returns : goal.returns
returns g c =
    let l = c.loop-reads in
    let e = run_stopped g.P.AnswersLines.program g.met.P.AnswersLines.tells (state_of c.args.on.now) (g.R.Read.remaining c.args.from.now) (g.W.Write.contents c.args.to.now) l._reads (g.R.Read.remaining l.from) (g.W.Write.contents l.to) (state_of l.on) (take l.have l.kept) l.invariant.2
    (omega (arith, c.loop-reads-test.false)) in
    record { answered = e.0; whole = e.1 }
