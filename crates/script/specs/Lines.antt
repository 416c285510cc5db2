-- Lines, one after the other.
use Rattle.std.specs.Prelude.{Bool, List, [], ◌∷◌, ℕ}
use Rattle.bench_start.specs.declared.Bench.{Bench}
use Rattle.line_stream.specs.State.{LineState, line_state}
use Rattle.script.specs.Bench.{LineResult, bench_of}
use Rattle.bench_start.specs.Start.{BenchStart, bench_start_of}

-- what goes from line to line: the tag and the number of lines, the memory, the reply buffer
abbrev pub BenchState : Type 0
BenchState = LineState Bench (List ℕ)

abbrev pub bench_state : Bench → List ℕ → List ℕ → BenchState
bench_state bench m o = line_state bench m o

-- the line s from there
abbrev pub line_from : Bool → BenchState → List ℕ → LineResult
line_from named state s = bench_of named state.bench state.memory state.reply s

-- what it hands on to the next
abbrev pub bench_after : LineResult → BenchState
bench_after result = bench_state result.bench result.memory result.reply

-- lines, the first one first
unfoldable pub after_lines : Bool → BenchState → List (List ℕ) → BenchState
after_lines named state [] = state
after_lines named state (s ∷ lines) = after_lines named (bench_after (line_from named state s)) lines

-- before line 1, with the lent memory m and the reply buffer o
abbrev pub before_lines : List ℕ → List ℕ → BenchState
before_lines m o = bench_state (bench_start_of m).bench (bench_start_of m).memory o
