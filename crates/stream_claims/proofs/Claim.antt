-- What is fed is answered line by line: the proofs of the claims. Assumes nothing.
use mathlib.Core.Path.{◌≡◌, refl}
use mathlib.Core.List.{[]}
use Rattle.line_stream.specs.Lines.{lines_of}
use Rattle.line_stream.specs.Output.{texts_of}
use Rattle.line_stream.proofs.Claim.{streams_out, answers_each, cuts_no_text, uses_some}
use Rattle.stream.specs.Program.{bench_program}
use Rattle.stream.proofs.Program.{bench_fits, bench_tells}
use Rattle.stream_claims.specs.Output.{bench_output}
use Rattle.stream_claims.specs.Claim.{Streams, Live, NeverCut, GoesOn}

pub streams : Streams
streams named = streams_out (bench_program named) (bench_fits named) (bench_tells named)

pub live : Live
live named = answers_each (bench_program named) (bench_fits named) (bench_tells named)

pub never_cut : NeverCut
never_cut named = cuts_no_text (bench_program named) (bench_fits named) (bench_tells named)

pub advances : GoesOn
advances named = uses_some (bench_program named)

-- a worked example: no byte
pub no_output : bench_output [] ≡ []
unfolding lines_of texts_of
no_output = refl
