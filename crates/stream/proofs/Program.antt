-- The bench's texts fit, and it reads no more of a line than is kept of it. Assumes nothing.
use mathlib.Core.Path.{ap}
use mathlib.Core.Bool.{Bool}
use Rattle.script.specs.Bench.{LineResult}
use Rattle.script.specs.Lines.{bench_after}
use Rattle.script.proofs.Fits.{text_fits}
use Rattle.script.proofs.Tells.{line_tells}
use Rattle.line_stream.specs.Step.{line_answer}
use Rattle.line_stream.specs.Claim.{TextsFit, TellsByKept}
use Rattle.stream.specs.Program.{bench_program}

pub bench_fits : (named : Bool) → TextsFit (bench_program named)
bench_fits named c s = text_fits named c s

pub bench_tells : (named : Bool) → TellsByKept (bench_program named)
bench_tells named c s = ap (λ (r : LineResult). line_answer (bench_after r) r.text) (line_tells named c s)
