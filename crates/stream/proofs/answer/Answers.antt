use mathlib.Core.Path.{ap}
use Rattle.script.specs.Bench.{LineBuffers}
use Rattle.script.specs.Lines.{bench_state}
use Rattle.line_stream.specs.Step.{line_stored}
use Rattle.stream.proofs.answer.Goals as goal

pub returns-clause-text_after : goal.returns-clause-text_after
returns-clause-text_after c = ap (λ (x : LineBuffers). line_stored (bench_state x.bench x.memory x.reply) x.length x.buffer) c.line.ensures.text_after
