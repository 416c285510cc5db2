-- A reply to a frame, and what it leaves in the reply buffer.
use Rattle.std.specs.Prelude.{List, [], ◌∷◌, ℕ, ◌+◌, length, Option, None, Some}
use Rattle.std.proofs.lemmas.List.Edits.{sets}
use Rattle.crc.specs.Crc.{closed_at}
use Rattle.errors.specs.declared.RadioError.{RadioError}
use Rattle.errors.specs.Errors.{error_code}

-- silence, or a reply's bytes without CRC
pub data ReplyBody : Type 0 where
  nothing : ReplyBody
  body : List ℕ → ReplyBody

-- "Reply: 00h and data, or 01h and the code .., then CRC."
abbrev pub good : List ℕ → ReplyBody
good data- = body (0x00 ∷ data-)

abbrev pub fault : RadioError → ReplyBody
fault error = body (0x01 ∷ error_code error ∷ [])

-- the answer: silence (None), or a reply with its length, CRC included
unfoldable pub answer_of : ReplyBody → Option ℕ
answer_of nothing = None
answer_of (body s) = Some (length s + 2)

-- the buffer: the reply from place 0 on, then its CRC; "reply bytes past the reply, and all of them in silence, also stay".
-- A buffer that is too short takes the bytes that fit and no CRC.
unfoldable pub buffer_of : ReplyBody → List ℕ → List ℕ
buffer_of nothing o = o
buffer_of (body s) o = closed_at (sets o 0 s) (length s)

-- both
pub record ReplyResult : Type 0 where
  pub answer : Option ℕ
  pub buffer : List ℕ

abbrev pub reply_result : Option ℕ → List ℕ → ReplyResult
reply_result answer o = record { answer = answer; buffer = o }

abbrev pub put_reply : ReplyBody → List ℕ → ReplyResult
put_reply reply o = reply_result (answer_of reply) (buffer_of reply o)
