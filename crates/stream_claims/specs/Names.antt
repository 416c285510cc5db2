-- The claim of the names of rules: "Only those lines get one added field", "The old listing stays" (Ask 3).
use Rattle.std.specs.Prelude.{◌≡◌, true, false, List, [], ◌∷◌, ℕ, ◌+◌, eqb, ltb}
use Rattle.parts.specs.Pick.{pick}
use Rattle.stream.specs.Passed.{BenchState}
use Rattle.line_stream.specs.Output.{output_of}
use Rattle.stream.specs.Program.{bench_program}
use Rattle.stream_claims.specs.Output.{bench_output, explain_output}

-- the bytes s, where their line had so many tabs (09h) before: from a line's second tab on all is left out, but its
-- line feed (0Ah) stays
unfoldable pub without_from : ℕ → List ℕ → List ℕ
without_from tabs [] = []
without_from tabs (x ∷ s) =
    let n = pick (eqb x 0x09) (tabs + 1) tabs in
    pick (eqb x 0x0A) (0x0A ∷ without_from 0 s)
    (pick (ltb n 2) (x ∷ without_from n s)
    (without_from n s))

-- lines without what follows their number and their answer
abbrev pub without_fields : List ℕ → List ℕ
without_fields s = without_from 0 s

-- whatever is carried, the output with names is the one without but for the added fields
abbrev pub FieldsAdded : Type 0
FieldsAdded = (state : BenchState) (s : List ℕ) → without_fields (output_of (bench_program true) state s) ≡ output_of (bench_program false) state s

-- so of the two programs
abbrev pub WithoutNames : Type 0
WithoutNames = (s : List ℕ) → without_fields (explain_output s) ≡ bench_output s
