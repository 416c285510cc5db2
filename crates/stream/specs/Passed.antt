-- What the crates above take of the crates below, so that each has to list few.
pub use Rattle.script.specs.Bench.{bench_call, rule_named}
unfoldable pub use Rattle.script.specs.Bench.{bench_of, line_result}
pub use Rattle.script.specs.Lines.{BenchState, before_lines, bench_after, line_from}
