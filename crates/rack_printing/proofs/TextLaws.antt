-- Laws of the text of a rack's answer. Assumes nothing.
use mathlib.Core.Path.{◌≡◌, refl, sym, ap, ◌∙◌}
use mathlib.Core.Bool.{Bool, true, false}
use mathlib.Core.List.{List, [], ◌∷◌, ◌++◌}
use Prim.Native.Nat.{ℕ, zero, suc, ◌+◌, ◌≤◌, ◌<◌}
use Rattle.std.specs.Prelude.{Ok, Err, Some, None}
use native.Mathlib.Omega.{arith}
use native.Mathlib.Numerals.{add-one}
use lib.ListN.{length, drop, get_or, length-append}
use lib.Seq.{sets, drop-cons, append_snoc}
use types.Run.{OneOf, miss}
use denote.Enum.Declared.{tag_of}
use Rattle.parts.specs.Pick.{pick}
use Rattle.parts.proofs.Picks.{pick_case}
use Rattle.text.specs.Decimal.{digits_of, decimal}
use Rattle.text.specs.Place.{Stored, stored, text_at}
use Rattle.text.proofs.DecimalLaws.{digits_most}
use Rattle.refusals.specs.Refusals.{number}
use Rattle.model.specs.declared.Answer.{Answer}
use Rattle.model.specs.declared.Answer.TheVariants.{Refused, Nothing, Ack, NoAck, Byte, Silence, Reply}
use Rattle.model.specs.contracts.Answer.{the_type}
use Rattle.printing.specs.Text.{answer_text, line_text}
use Rattle.printing.proofs.TextLaws.{length_line, answer_most}
use Rattle.rack.specs.Step.{numbers_from}
use Rattle.rack_printing.specs.Text.{refused_text, said_text, numbers_text, report_text, search_text}
use Rattle.rack_search.specs.Search.{SearchAnswer}

-- ---- the answers but for a refusal, by their numbers in the enum, print as in `bench`
abbrev others : List ℕ
others = 1 ∷ 2 ∷ 3 ∷ 4 ∷ 5 ∷ 6 ∷ []

pub as_in_bench : (a : Answer) (o : List ℕ) → OneOf others (tag_of the_type a) → answer_text a o ≡ said_text a o
unfolding said_text
as_in_bench (Refused refusal) o h = absurd (miss others 0 tt h)
as_in_bench Nothing o h = refl
as_in_bench Ack o h = refl
as_in_bench NoAck o h = refl
as_in_bench (Byte x) o h = refl
as_in_bench Silence o h = refl
as_in_bench (Reply n) o h = refl

-- ---- a flag more
flag_more : (b : Bool) (i mark : ℕ) (rest : List ℕ)
    → numbers_text mark (pick b (i ∷ rest) rest) ≡ pick b (mark ∷ decimal i) [] ++ numbers_text (pick b 0x2C mark) rest
unfolding numbers_text pick
flag_more true i mark rest = refl
flag_more false i mark rest = refl

pub report_more : (flags : List Bool) (i mark : ℕ) → i < length flags
    → numbers_text mark (numbers_from i (drop i flags))
    ≡ pick (get_or flags i false) (mark ∷ decimal i) [] ++ numbers_text (pick (get_or flags i false) 0x2C mark) (numbers_from (i + 1) (drop (i + 1) flags))
unfolding numbers_from
report_more flags i mark h =
    let b = get_or flags i false in
    ap (λ (l : List Bool). numbers_text mark (numbers_from i l)) (drop-cons flags i false h)
    ∙ flag_more b i mark (numbers_from (suc i) (drop (suc i) flags))
    ∙ ap (λ (k : ℕ). pick b (mark ∷ decimal i) [] ++ numbers_text (pick b 0x2C mark) (numbers_from k (drop k flags))) (sym (add-one i))

-- ---- lengths
refused_most : (k : ℕ) → length (0x21 ∷ decimal k) ≤ 21
refused_most k = omega (arith, digits_most 20 k)

-- two digits a byte of the reply buffer at most
pub said_most : (a : Answer) (o : List ℕ) → length o ≡ 643 → length (said_text a o) ≤ 1286
unfolding said_text refused_text
said_most (Refused refusal) o h = omega (arith, refused_most (number refusal))
said_most Nothing o h = answer_most Nothing o h
said_most Ack o h = answer_most Ack o h
said_most NoAck o h = answer_most NoAck o h
said_most (Byte x) o h = answer_most (Byte x) o h
said_most Silence o h = answer_most Silence o h
said_most (Reply n) o h = answer_most (Reply n) o h

pub search_most : (answer : SearchAnswer) → length (search_text answer) ≤ 21
unfolding search_text refused_text
search_most (Err refusal) = refused_most (number refusal)
search_most (Ok None) = omega arith
search_most (Ok (Some k)) = omega (arith, digits_most 20 k)

-- the marks and digits of k numbers from i on
unfoldable widths : ℕ → ℕ → ℕ
widths i zero = 0
widths i (suc k) = suc (length (decimal i)) + widths (suc i) k

numbers_most : (flags : List Bool) (i mark : ℕ) → length (numbers_text mark (numbers_from i flags)) ≤ widths i (length flags)
unfolding numbers_from numbers_text widths
numbers_most [] i mark = omega arith
numbers_most (b ∷ flags) i mark =
    let rest = numbers_from (suc i) flags in
    pick_case (λ (l : List ℕ). length (numbers_text mark l) ≤ suc (length (decimal i)) + widths (suc i) (length flags)) b (i ∷ rest) rest
    (λ _. omega (arith, length-append (mark ∷ decimal i) (numbers_text 0x2C rest), numbers_most flags (suc i) 0x2C))
    (λ _. omega (arith, numbers_most flags (suc i) mark))

sixteen : widths 0 16 ≡ 38
unfolding widths digits_of pick
sixteen = refl

-- a tab, ten numbers of one digit, six of two, and fifteen commas at most
pub report_most : (flags : List Bool) → length flags ≡ 16 → length (report_text (numbers_from 0 flags)) ≤ 38
report_most flags h = omega (arith, numbers_most flags 0 0x09, ap (λ (k : ℕ). widths 0 k) h ∙ sixteen)

-- ---- a line
-- number, tab, answer and line feed one behind another
pub line_whole : (n : ℕ) (s : List ℕ) → ((decimal n ++ 0x09 ∷ []) ++ s) ++ 0x0A ∷ [] ≡ line_text n s
unfolding line_text
line_whole n s = ap (λ (l : List ℕ). l ++ 0x0A ∷ []) (append_snoc (decimal n) 0x09 s)

-- a text that was stored from place 0 on and is a line's
pub line_stored_lem : (o b s t : List ℕ) (n k : ℕ) → length s ≤ 1324 → t ≡ line_text n s → stored k b ≡ text_at o 0 t
    → (k ≡ length (line_text n s)) × (b ≡ sets o 0 (line_text n s))
line_stored_lem o b s t n k h w e =
    let q : stored k b ≡ text_at o 0 (line_text n s) = e ∙ ap (λ (l : List ℕ). text_at o 0 l) w in
    (omega (arith, ap (λ (r : Stored). r.next) q, length_line n s, digits_most 20 n), ap (λ (r : Stored). r.buffer) q)
