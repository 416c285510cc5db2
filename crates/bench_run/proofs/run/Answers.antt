use Rattle.std.proofs.Common.{◌≡◌, true, false, ap, replicate}
use Rattle.bench_start.specs.Start.{BenchStart}
use Rattle.line_stream.specs.State.{line_state}
use Rattle.stream_claims.specs.Output.{fresh_start}
use Rattle.bench_run.proofs.Named.{answers_as, tells_explain, tells_bench}
use Rattle.bench_run.proofs.run.Goals as goal
use Rattle.bench_run.proofs.run.Goals.{then-named, else-named}

pub returns-clause-answered : goal.returns-clause-answered
returns-clause-answered g c =
    let fresh : line_state c.start-bench.result c.start-bench.new.m (replicate 643 0) ≡ fresh_start = ap (λ (x : BenchStart). line_state x.bench x.memory (replicate 643 0)) c.start-bench.ensures in
    elim c.if-named.branch [
      | then-named w ↦ rw (w.from-is, w.to-is) (answers_as c.args.named (g.R.Read.remaining c.args.from.now) (g.R.Read.remaining w.run.new.from) true _ (g.W.Write.contents c.args.to.now) (g.W.Write.contents w.run.new.to) w.if-named.true fresh w.run.ensures.answered)
      | else-named w ↦ rw (w.from-is, w.to-is) (answers_as c.args.named (g.R.Read.remaining c.args.from.now) (g.R.Read.remaining w.run-else-named.new.from) false _ (g.W.Write.contents c.args.to.now) (g.W.Write.contents w.run-else-named.new.to) w.if-named.false fresh w.run-else-named.ensures.answered)
    ]

pub returns-clause-told : goal.returns-clause-told
returns-clause-told g c =
    elim c.if-named.branch [
      | then-named w ↦ rw w.err-is (tells_explain c.args.named (g.E.Write.contents c.args.err.now) (g.E.Write.contents w.run.new.err) w.if-named.true w.run.ensures.told)
      | else-named w ↦ rw w.err-is (tells_bench c.args.named (g.E.Write.contents c.args.err.now) (g.E.Write.contents w.run-else-named.new.err) w.if-named.false w.run-else-named.ensures.told)
    ]
