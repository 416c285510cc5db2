-- The claims, of the bench: however the input is cut into pieces, and whatever buffer each call gets, what is written is
-- the whole output; whether rules are named or not.
use Rattle.std.specs.Prelude.{Bool}
use Rattle.line_stream.specs.Claim.{StreamsOut, AnswersEach, CutsNoText, UsesSome}
use Rattle.stream.specs.Program.{bench_program}

-- all that is handed over, one after the other, is the whole output of the whole input (from `fresh_start`: `bench_output`)
abbrev pub Streams : Type 0
Streams = (named : Bool) → StreamsOut (bench_program named)

-- before more is read, each line that has its line feed is answered
abbrev pub Live : Type 0
Live = (named : Bool) → AnswersEach (bench_program named)

-- a text is never cut
abbrev pub NeverCut : Type 0
NeverCut = (named : Bool) → CutsNoText (bench_program named)

-- with room for a text a call goes on
abbrev pub GoesOn : Type 0
GoesOn = (named : Bool) → UsesSome (bench_program named)
