-- What a run has written for the bytes that it has read.
use Rattle.std.specs.Prelude.{true, List, [], ◌∷◌, ◌++◌, ℕ, ◌-◌, ◌^◌, ◌≤◌, ◌⊎◌, eqb, length, Option}
use Rattle.std.specs.Io.KnownBytes.{Appends, Consumes, IsAtEnd}
use Rattle.console.specs.Written.{AppendsStart}
use Rattle.parts.specs.Pick.{pick}
use Rattle.line_stream.specs.Step.{LineProgram}
use Rattle.line_stream.specs.Output.{texts_of}
use Rattle.line_stream.specs.Flow.{Flow, flow_of, Reaches}

-- what is held where the input ends: a line if it has a byte
abbrev pub last_line : List ℕ → List (List ℕ)
last_line held = pick (eqb (length held) 0) [] (held ∷ [])

-- all that is to be written for the bytes s, after the unfinished line held, where the input ends with them
abbrev pub output_from : {S : Type 0} → LineProgram S → S → List ℕ → List ℕ → List ℕ
output_from program state held s = let f = flow_of program state held s in f.text ++ texts_of program f.carried (last_line f.held)

-- some bytes were read, and a start of what is to be written for them was written
abbrev pub AnswersRead : (List ℕ → List ℕ) → Option (List ℕ) → Option (List ℕ) → Option (List ℕ) → Option (List ℕ) → Type 0
AnswersRead output unread unread' old new = (s : List ℕ) × Consumes unread unread' s × AppendsStart old new (output s)

-- all was read, and all that is to be written for it was written; or so many bytes were read that the count of reads ran out
abbrev pub AnswersAll : (List ℕ → List ℕ) → Option (List ℕ) → Option (List ℕ) → Option (List ℕ) → Option (List ℕ) → Type 0
AnswersAll output unread unread' old new =
    (s : List ℕ) × Consumes unread unread' s × ((IsAtEnd unread' × Appends old new (output s)) ⊎ (2 ^ 64 - 1 ≤ length s))

-- n bytes or more were read, their texts were written, and the program has come to what they lead to
abbrev pub Feeds : {S : Type 0} → (List ℕ → Flow S) → ℕ → Option (List ℕ) → Option (List ℕ) → Option (List ℕ) → Option (List ℕ) → S → List ℕ → Type 0
Feeds flows n unread unread' old new state held =
    (s : List ℕ) × (n ≤ length s) × Consumes unread unread' s × Appends old new (flows s).text × Reaches true state held (flows s)
