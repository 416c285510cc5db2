-- The claims, of a program whose texts fit and that reads no more of a line than is kept of it: however the input is cut
-- into pieces, and whatever buffer each call gets, what is written is the whole output.
use Rattle.std.specs.Prelude.{◌≡◌, List, [], ◌∷◌, ◌++◌, ℕ, zero, suc, ◌≤◌, ◌<◌, length, take, drop}
use Rattle.std.proofs.lemmas.List.Edits.{sets}
use Rattle.unfinished.specs.Kept.{keep}
use Rattle.line_stream.specs.Lines.{full_lines_of, bytes_before_full}
use Rattle.line_stream.specs.Output.{texts_of, output_of}
use Rattle.line_stream.specs.Step.{LineProgram, piece_by, end_of, text_room}
use Rattle.line_stream.specs.Flow.{Flow, flow, following}

-- ---- what is asked of the program
-- no text is longer than a call leaves room for, whatever is carried
abbrev pub TextsFit : {S : Type 0} → LineProgram S → Type 0
TextsFit {S} program = (state : S) (s : List ℕ) → length (program state s).text ≤ text_room

-- what is kept of a line tells as much as the line
abbrev pub TellsByKept : {S : Type 0} → LineProgram S → Type 0
TellsByKept {S} program = (state : S) (s : List ℕ) → program state (keep s) ≡ program state s

-- ---- a run
-- what is handed over of a text that was put into the buffer o: as many bytes of the buffer as the text has
abbrev pub buffer_text : List ℕ → List ℕ → List ℕ
buffer_text o text = take (length text) (sets o 0 text)

-- a piece: k calls, each with what the one before left of it; with the buffer of each, as it is before the call
unfoldable pub piece_of : {S : Type 0} → LineProgram S → (ℕ → List ℕ) → ℕ → S → List ℕ → List ℕ → Flow S
piece_of program buffers zero state held piece = flow state held []
piece_of program buffers (suc k) state held piece =
    let result = piece_by program (length (buffers k)) state held piece in
    following (buffer_text (buffers k) result.text) (piece_of program buffers k result.carried result.held (drop result.used piece))

-- pieces, one after the other. A piece of n bytes is used up by n calls; where fewer do, those with nothing left do nothing.
unfoldable pub pieces_of : {S : Type 0} → LineProgram S → (ℕ → List ℕ) → S → List ℕ → List (List ℕ) → Flow S
pieces_of program buffers state held [] = flow state held []
pieces_of program buffers state held (piece ∷ pieces) =
    let result = piece_of program buffers (length piece) state held piece in
    following result.text (pieces_of program buffers result.carried result.held pieces)

-- the end of the input after pieces
unfoldable pub all_of : {S : Type 0} → LineProgram S → (ℕ → List ℕ) → S → List (List ℕ) → List ℕ
all_of program buffers state pieces =
    let result = pieces_of program buffers state [] pieces in
    result.text ++ buffer_text (buffers 0) (end_of program (length (buffers 0)) result.carried result.held).text

unfoldable pub joined : List (List ℕ) → List ℕ
joined [] = []
joined (piece ∷ pieces) = piece ++ joined pieces

-- every buffer has room for a text
abbrev pub Roomy : (ℕ → List ℕ) → Type 0
Roomy buffers = (k : ℕ) → text_room ≤ length (buffers k)

-- ---- the claims
-- all that is handed over, one after the other, is the whole output of the whole input
abbrev pub StreamsOut : {S : Type 0} → LineProgram S → Type 0
StreamsOut {S} program = (buffers : ℕ → List ℕ) → Roomy buffers → (state : S) (pieces : List (List ℕ)) → all_of program buffers state pieces ≡ output_of program state (joined pieces)

-- before more is read, each line that has its line feed is answered
abbrev pub AnswersEach : {S : Type 0} → LineProgram S → Type 0
AnswersEach {S} program = (buffers : ℕ → List ℕ) → Roomy buffers → (state : S) (pieces : List (List ℕ)) → (pieces_of program buffers state [] pieces).text ≡ texts_of program state (full_lines_of (joined pieces))

-- a text is never cut: what a call hands over is its texts, with any buffer, and they are those of the lines whose line feeds it used
abbrev pub CutsNoText : {S : Type 0} → LineProgram S → Type 0
CutsNoText {S} program = (o : List ℕ) (state : S) (held s : List ℕ)
    → buffer_text o (piece_by program (length o) state held s).text ≡ texts_of program state (bytes_before_full held (full_lines_of (take (piece_by program (length o) state held s).used s)))

-- with room for a text a call goes on
abbrev pub UsesSome : {S : Type 0} → LineProgram S → Type 0
UsesSome {S} program = (room : ℕ) (state : S) (held s : List ℕ) → text_room ≤ room → 0 < length s → 0 < (piece_by program room state held s).used
