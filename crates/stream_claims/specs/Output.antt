-- The whole program: what it writes for a whole input. Named: with the names of rules, as `explain` writes them.
use Rattle.std.specs.Prelude.{true, false, List, ℕ, replicate}
use Rattle.tag.specs.Layout.{memory_bytes, reply_bytes}
use Rattle.stream.specs.Passed.{BenchState, before_lines}
use Rattle.line_stream.specs.Output.{output_of}
use Rattle.stream.specs.Program.{bench_program}

-- "It starts fresh": both lent buffers are zeros before line 1
abbrev pub fresh_start : BenchState
fresh_start = before_lines (replicate memory_bytes 0) (replicate reply_bytes 0)

abbrev pub bench_output : List ℕ → List ℕ
bench_output s = output_of (bench_program false) fresh_start s

-- "A tool that explains a NoAck" (Ask 3)
abbrev pub explain_output : List ℕ → List ℕ
explain_output s = output_of (bench_program true) fresh_start s
