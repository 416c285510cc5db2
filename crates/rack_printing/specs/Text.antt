-- What `rack_bench` prints for an answer: a line is number, tab, answer, line feed, as in `bench` (`line_text`), and `?` for a bad one (`bad_text`).
use Rattle.std.specs.Prelude.{Some, None, Ok, Err, List, [], ◌∷◌, ◌++◌, ℕ}
use Rattle.text.specs.Decimal.{decimal}
use Rattle.refusals.specs.declared.Refusal.{Refusal}
use Rattle.refusals.specs.Refusals.{number}
use Rattle.model.specs.declared.Answer.{Answer}
use Rattle.model.specs.declared.Answer.TheVariants.{Refused, Nothing, Ack, NoAck, Byte, Silence, Reply}
use Rattle.printing.specs.Text.{answer_text}
use Rattle.rack.specs.Step.{RackAnswer}
use Rattle.rack_search.specs.Search.{SearchAnswer}

-- "A refused call prints `!` and its number."
unfoldable pub refused_text : Refusal → List ℕ
refused_text refusal = 0x21 ∷ decimal (number refusal)

-- any other answer as in `bench`, with the reply buffer o
unfoldable pub said_text : Answer → List ℕ → List ℕ
said_text (Refused refusal) o = refused_text refusal
said_text Nothing o = answer_text Nothing o
said_text Ack o = answer_text Ack o
said_text NoAck o = answer_text NoAck o
said_text (Byte x) o = answer_text (Byte x) o
said_text Silence o = answer_text Silence o
said_text (Reply n) o = answer_text (Reply n) o

-- numbers in decimal: the first behind a mark, each other behind a comma
unfoldable pub numbers_text : ℕ → List ℕ → List ℕ
numbers_text mark [] = []
numbers_text mark (n ∷ rest) = mark ∷ decimal n ++ numbers_text 0x2C rest

-- "a tab and the numbers of the tags that answered, decimal, rising, parted by commas"; nothing where none did
abbrev pub report_text : List ℕ → List ℕ
report_text numbers = numbers_text 0x09 numbers

-- "R and E are answered by the lowest-numbered reply (hex, no CRC)" and that, "or by `-` alone"; of other calls nobody is reported
unfoldable pub rack_text : RackAnswer → List ℕ
rack_text answer = said_text answer.says.answer answer.says.buffer ++ report_text answer.report

-- the search is "answered by the slot in decimal or `-`"
unfoldable pub search_text : SearchAnswer → List ℕ
search_text (Err refusal) = refused_text refusal
search_text (Ok None) = 0x2D ∷ []
search_text (Ok (Some k)) = decimal k
