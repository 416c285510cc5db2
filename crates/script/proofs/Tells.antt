-- What is kept of a line tells as much as the line. Assumes nothing.
use mathlib.Core.Path.{◌≡◌, ap}
use mathlib.Core.Bool.{Bool}
use mathlib.Core.List.{List}
use Prim.Native.Nat.{ℕ, ◌<◌}
use native.Mathlib.Omega.{arith}
use Rattle.reading.specs.Line.{ScriptLine, longest}
use Rattle.reading.proofs.LineLaws.{line_cut}
use Rattle.unfinished.specs.Kept.{kept_most, keep}
use Rattle.script.specs.Bench.{line_result, bench_of}
use Rattle.script.specs.Lines.{BenchState, line_from}

pub line_tells : (named : Bool) (state : BenchState) (s : List ℕ) → line_from named state (keep s) ≡ line_from named state s
unfolding bench_of
line_tells named state s =
    let more : longest < kept_most = omega arith in
    ap (λ (x : ScriptLine). line_result named x state.bench state.memory state.reply) (line_cut kept_most more s)
