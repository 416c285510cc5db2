-- No text is longer than 1,342 bytes, and of a line that is too long 1,201 characters tell. Assumes nothing.
use mathlib.Core.Path.{◌≡◌}
use mathlib.Core.Bool.{Bool, true}
use mathlib.Core.List.{List, [], ◌++◌}
use Prim.Native.Nat.{ℕ, ◌-◌, ◌≤◌}
use native.Mathlib.Omega.{arith}
use borrow.Author.Tests.{leb-true}
use lib.ListN.{length, take, length-append, length-take}
use Rattle.model.specs.declared.Answer.{Answer}
use Rattle.model.specs.declared.Answer.TheVariants.{Refused, Nothing, Ack, NoAck, Byte, Silence, Reply}
use Rattle.refusals.specs.Call.{handed_in}
use Rattle.model.specs.Step.{step_of}
use Rattle.replies_fit.specs.Claims.{reply_fits}
use Rattle.replies_fit.proofs.RepliesFit.{steps_fit}
use Rattle.hexadecimal.specs.Hex.{hex_text}
use Rattle.hexadecimal.proofs.HexLaws.{length_hex_text}
use Rattle.text.proofs.DecimalLaws.{digits_most}
use Rattle.bench_start.specs.declared.Bench.{Bench}
use Rattle.reading.specs.Line.{ScriptLine, bad_line, signal_line, frame_line, line_of}
use Rattle.printing.specs.Text.{bad_text, answer_text, name_field, line_text}
use Rattle.script.specs.Bench.{bench_call, line_result, bench_of, longest_text}
use Rattle.bench_start.specs.Start.{next_line}
use Rattle.script.specs.Claims.{TextFits}
use Rattle.printing.proofs.TextLaws.{length_line, field_most}

-- ---- a text
answer_fits : (a : Answer) (o : List ℕ) → reply_fits a ≡ true → length (answer_text a o) ≤ 1282
unfolding answer_text reply_fits hex_text
answer_fits (Refused n) o h = omega arith
answer_fits Nothing o h = omega arith
answer_fits Ack o h = omega arith
answer_fits NoAck o h = omega arith
answer_fits (Byte x) o h = omega arith
answer_fits Silence o h = omega arith
answer_fits (Reply n) o h = omega (arith, leb-true n 643 h, length_hex_text (take (n - 2) o), length-take (n - 2) o)

line_fits : (n : ℕ) (a : List ℕ) → length a ≤ 1320 → length (line_text n a) ≤ longest_text
line_fits n a h = omega (arith, length_line n a, digits_most 20 n)

named_fits : (a : Answer) (o : List ℕ) (rule : ℕ) → reply_fits a ≡ true → length (answer_text a o ++ name_field rule) ≤ 1320
named_fits a o rule h = omega (arith, answer_fits a o h, field_most rule, length-append (answer_text a o) (name_field rule))

calls_fit : (named : Bool) (b : Bench) (m o : List ℕ) (code value : ℕ) (s : List ℕ) → length (bench_call named b m o code value s).text ≤ longest_text
calls_fit named b m o code value s =
    let c = handed_in o code value s in
    let e = step_of b.tag m c in
    line_fits (next_line b) _ (named_fits e.answer e.reply _ (steps_fit b.tag m c))

said_fits : (named : Bool) (x : ScriptLine) (b : Bench) (m o : List ℕ) → length (line_result named x b m o).text ≤ longest_text
unfolding line_result
said_fits named bad_line b m o = line_fits (next_line b) bad_text (omega arith)
said_fits named (signal_line code value) b m o = calls_fit named b m o code value []
said_fits named (frame_line f) b m o = calls_fit named b m o 8 0 _

pub text_fits : TextFits
unfolding bench_of
text_fits named c s = said_fits named (line_of s) c.bench c.memory c.reply
