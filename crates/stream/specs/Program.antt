-- The bench as a program that answers line by line; named: with the names of rules.
use Rattle.std.specs.Prelude.{Bool}
use Rattle.script.specs.Lines.{BenchState, line_from, bench_after}
use Rattle.line_stream.specs.Step.{LineProgram, line_answer}

abbrev pub bench_program : Bool → LineProgram BenchState
bench_program named state s = let result = line_from named state s in line_answer (bench_after result) result.text
