-- "prints line number, tab, answer: A, N, hex (no CRC for R), - for none, ? for a bad line"
use Rattle.std.specs.Prelude.{List, [], ◌∷◌, ◌++◌, ℕ, ◌-◌, eqb, take}
use Rattle.parts.specs.Pick.{pick}
use Rattle.model.specs.declared.Answer.{Answer}
use Rattle.model.specs.declared.Answer.TheVariants.{Refused, Nothing, Ack, NoAck, Byte, Silence, Reply}
use Rattle.hexadecimal.specs.Hex.{hex_text}
use Rattle.text.specs.Decimal.{decimal}
use Rattle.rule_names.specs.Names.{name_at}

-- "?"
abbrev pub bad_text : List ℕ
bad_text = 0x3F ∷ []

-- an answer, with the reply buffer o. A refusal prints ? as a bad line does; no good line prints it (Claims, OnlyBadRefused).
unfoldable pub answer_text : Answer → List ℕ → List ℕ
answer_text (Refused n) o = bad_text
answer_text Nothing o = 0x2D ∷ []
answer_text Ack o = 0x41 ∷ []
answer_text NoAck o = 0x4E ∷ []
answer_text (Byte x) o = hex_text (x ∷ [])
-- silence prints as none does
answer_text Silence o = 0x2D ∷ []
-- without the CRC's two bytes
answer_text (Reply n) o = hex_text (take (n - 2) o)

-- "one added field, tab-parted, the rule's short name" (Ask 3); rule 0 stands for none
unfoldable pub name_field : ℕ → List ℕ
name_field rule = pick (eqb rule 0) [] (0x09 ∷ name_at rule)

-- number, tab, answer and its field, line feed
unfoldable pub line_text : ℕ → List ℕ → List ℕ
line_text n answer = decimal n ++ 0x09 ∷ answer ++ 0x0A ∷ []
