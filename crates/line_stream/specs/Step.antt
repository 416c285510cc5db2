-- A program that answers line by line, and a call with a piece of its input: byte by byte, until the piece is used up or a line feed comes and its text might not fit.
use Rattle.std.specs.Prelude.{List, [], ◌∷◌, ◌++◌, ℕ, ◌+◌, ◌-◌, eqb, ltb, length as size}
use Rattle.std.proofs.lemmas.List.Edits.{sets}
use Rattle.parts.specs.Pick.{pick}
use Rattle.unfinished.specs.Kept.{keep}

-- ---- the program
-- what a line leads to: what is carried on, and the line's text
pub record LineAnswer (S : Type 0) : Type 0 where
  pub carried : S
  pub text : List ℕ

abbrev pub line_answer : {S : Type 0} → S → List ℕ → LineAnswer S
line_answer state text = record { carried = state; text = text }

-- from what is carried and a line, without its line feed
abbrev pub LineProgram : Type 0 → Type 0
LineProgram S = S → List ℕ → LineAnswer S

-- what the function of a line leaves of its buffer: the text stands there from place 0 on
pub record LineStored (S : Type 0) : Type 0 where
  pub carried : S
  pub length : ℕ
  pub buffer : List ℕ

abbrev pub line_stored : {S : Type 0} → S → ℕ → List ℕ → LineStored S
line_stored state n buffer = record { carried = state; length = n; buffer = buffer }

abbrev pub stores_line : {S : Type 0} → LineAnswer S → List ℕ → LineStored S
stores_line answer buffer = line_stored answer.carried (size answer.text) (sets buffer 0 answer.text)

-- ---- a piece
-- what a call leaves: what is carried, the unfinished line, how many bytes of the piece it used, the texts it wrote
pub record PieceResult (S : Type 0) : Type 0 where
  pub carried : S
  pub held : List ℕ
  pub used : ℕ
  pub text : List ℕ

abbrev pub piece_result : {S : Type 0} → S → List ℕ → ℕ → List ℕ → PieceResult S
piece_result state held n text = record { carried = state; held = held; used = n; text = text }

-- the same, after k bytes more were used and a text was written
abbrev pub ahead : {S : Type 0} → ℕ → List ℕ → PieceResult S → PieceResult S
ahead k text result = piece_result result.carried result.held (k + result.used) (text ++ result.text)

-- no text is longer (TextsFit)
abbrev pub text_room : ℕ
text_room = 1342

-- a line feed comes and there is no room for its text: it is not used
abbrev pub no_room : {S : Type 0} → S → List ℕ → PieceResult S
no_room state held = piece_result state held 0 []

-- the piece s, after the unfinished line held, with room for so many bytes of text
unfoldable pub piece_by : {S : Type 0} → LineProgram S → ℕ → S → List ℕ → List ℕ → PieceResult S
piece_by program room state held [] = piece_result state held 0 []
piece_by program room state held (x ∷ s) =
    let answer = program state held in
    pick (eqb x 10)
    (pick (ltb room text_room) (no_room state held)
    (ahead 1 answer.text (piece_by program (room - size answer.text) answer.carried [] s)))
    (ahead 1 [] (piece_by program room state (keep (held ++ x ∷ [])) s))

-- the end of the input: an unfinished line that has a byte gets its line feed
unfoldable pub end_of : {S : Type 0} → LineProgram S → ℕ → S → List ℕ → PieceResult S
end_of program room state held = pick (eqb (size held) 0) (piece_result state [] 0 []) (piece_by program room state held (10 ∷ []))

-- ---- what the functions of both leave of the lent buffers: the texts stand in `buffer` from place 0 on. Of the buffer for an unfinished
-- line only the line is said: what stands past it is the program's own choice, and neither function reads it.
pub record StreamBuffers (S : Type 0) : Type 0 where
  pub carried : S
  pub held : List ℕ
  pub used : ℕ
  pub wrote : ℕ
  pub buffer : List ℕ

abbrev pub stream_buffers : {S : Type 0} → S → List ℕ → ℕ → ℕ → List ℕ → StreamBuffers S
stream_buffers state held n k buffer = record { carried = state; held = held; used = n; wrote = k; buffer = buffer }

abbrev pub puts : {S : Type 0} → PieceResult S → List ℕ → StreamBuffers S
puts result buffer = stream_buffers result.carried result.held result.used (size result.text) (sets buffer 0 result.text)
