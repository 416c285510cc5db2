-- From line to line: the tag, its memory and the line number are carried on.
use Rattle.std.specs.Prelude.{Bool, List, [], ◌++◌, ℕ, length as size}
use Rattle.std.proofs.lemmas.List.Edits.{sets}
use Rattle.parts.specs.Pick.{pick}
use Rattle.tag.specs.declared.Tag.{Tag}
use Rattle.crc.specs.Crc.{closed}
use Rattle.refusals.specs.Call.{handed_in}
use Rattle.model.specs.Step.{step_of}
use Rattle.explanation.specs.Passed.{rule_at}
use Rattle.bench_start.specs.declared.Bench.{Bench}
use Rattle.reading.specs.Line.{ScriptLine, bad_line, signal_line, frame_line, line_of}
use Rattle.printing.specs.Text.{bad_text, answer_text, name_field, line_text}
use Rattle.bench_start.specs.Start.{next_line}

-- what a line leaves: the tag and the number of lines, the memory, the reply buffer, and the text that it prints
pub record LineResult : Type 0 where
  pub bench : Bench
  pub memory : List ℕ
  pub reply : List ℕ
  pub text : List ℕ

-- the longest text: the line feed, the tab, a number of 20 digits, the hex of a reply's 641 bytes before its CRC, and a
-- field of 38 characters
abbrev pub longest_text : ℕ
longest_text = 1342

abbrev pub prints : Bench → Tag → List ℕ → List ℕ → List ℕ → LineResult
prints bench t m o answer = record { bench = record { tag = t; number = next_line bench }; memory = m; reply = o; text = line_text (next_line bench) answer }

-- the rule that gave the answer to a call, where it is asked for
abbrev pub rule_named : Bool → Tag → List ℕ → ℕ → ℕ → List ℕ → ℕ
rule_named named t m code value f = pick named (rule_at t m code value f) 0

-- a call with the reply buffer o; named: with the name of the rule
abbrev pub bench_call : Bool → Bench → List ℕ → List ℕ → ℕ → ℕ → List ℕ → LineResult
bench_call named bench m o code value f =
    let result = step_of bench.tag m (handed_in o code value f) in
    prints bench result.tag result.memory result.reply (answer_text result.answer result.reply ++ name_field (rule_named named bench.tag m code value f))

-- a bad line is no call
abbrev pub bad_result : Bench → List ℕ → List ℕ → LineResult
bad_result bench m o = prints bench bench.tag m o bad_text

-- the program adds a frame's CRC
unfoldable pub line_result : Bool → ScriptLine → Bench → List ℕ → List ℕ → LineResult
line_result named bad_line bench m o = bad_result bench m o
line_result named (signal_line code value) bench m o = bench_call named bench m o code value []
line_result named (frame_line f) bench m o = bench_call named bench m o 8 0 (closed f)

-- the frame that a line hands over, with its CRC; any other line has none
unfoldable pub closed_frame : ScriptLine → List ℕ
closed_frame bad_line = []
closed_frame (signal_line code value) = []
closed_frame (frame_line f) = closed f

-- the line s
unfoldable pub bench_of : Bool → Bench → List ℕ → List ℕ → List ℕ → LineResult
bench_of named bench m o s = line_result named (line_of s) bench m o

-- ---- what the program's function leaves of the lent buffers: the text stands in `buffer` from place 0 on
pub record LineBuffers : Type 0 where
  pub bench : Bench
  pub length : ℕ
  pub memory : List ℕ
  pub reply : List ℕ
  pub buffer : List ℕ

abbrev pub line_buffers : Bench → ℕ → List ℕ → List ℕ → List ℕ → LineBuffers
line_buffers bench n m o buffer = record { bench = bench; length = n; memory = m; reply = o; buffer = buffer }

abbrev pub put_line : LineResult → List ℕ → LineBuffers
put_line result buffer = line_buffers result.bench (size result.text) result.memory result.reply (sets buffer 0 result.text)
