-- The claims, of `rack_bench`: however the input is cut into pieces, and whatever buffer each call gets, what is written
-- is the whole output.
use Rattle.line_stream.specs.Claim.{StreamsOut, AnswersEach, CutsNoText, UsesSome}
use Rattle.rack_script.specs.Script.{rack_program}

-- all that is handed over, one after the other, is the whole output of the whole input (from `empty_rack`: `rack_output`)
abbrev pub RackStreams : Type 0
RackStreams = StreamsOut rack_program

-- before more is read, each line that has its line feed is answered
abbrev pub RackLive : Type 0
RackLive = AnswersEach rack_program

-- a text is never cut
abbrev pub RackNeverCut : Type 0
RackNeverCut = CutsNoText rack_program

-- with room for a text a call goes on
abbrev pub RackGoesOn : Type 0
RackGoesOn = UsesSome rack_program
