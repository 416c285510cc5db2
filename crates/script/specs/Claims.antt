-- What is proved of lines, beside the functions' contracts: whether the rules are named or not.
use Rattle.std.specs.Prelude.{◌≡◌, Bool, List, ℕ, ◌≤◌, length}
use Rattle.tag.specs.Layout.{memory_bytes, reply_bytes}
use Rattle.model.specs.Claims.{Fit}
use Rattle.reading.specs.Line.{bad_line, line_of}
use Rattle.printing.specs.Text.{bad_text, line_text}
use Rattle.bench_start.specs.Start.{next_line}
use Rattle.script.specs.Bench.{bad_result, longest_text}
use Rattle.script.specs.Lines.{BenchState, line_from, bench_after, after_lines, before_lines}

-- no text is longer, whatever tag and buffers are carried
abbrev pub TextFits : Type 0
TextFits = (named : Bool) (state : BenchState) (s : List ℕ) → length (line_from named state s).text ≤ longest_text

-- the tag is in range with 1,024 bytes, and there is room for a reply
pub record BenchFit (state : BenchState) : Type 0 where
  pub tag : Fit state.bench.tag state.memory
  pub room : reply_bytes ≤ length state.reply

-- so it is before line 1, and every line keeps it
abbrev pub StartFits : Type 0
StartFits = (m o : List ℕ) → length m ≡ memory_bytes → reply_bytes ≤ length o → BenchFit (before_lines m o)

abbrev pub LineKeepsFit : Type 0
LineKeepsFit = (named : Bool) (state : BenchState) (s : List ℕ) → BenchFit state → BenchFit (bench_after (line_from named state s))

-- "? for a bad line (no change ..)": from the start on, after any lines, the line s prints ? only if it is bad;
-- and a bad one prints it, and changes nothing but the number of lines
abbrev pub OnlyBadRefused : Type 0
OnlyBadRefused = (named : Bool) (m o : List ℕ) → length m ≡ memory_bytes → reply_bytes ≤ length o → (lines : List (List ℕ)) (s : List ℕ)
    → let result = after_lines named (before_lines m o) lines in
    ((line_from named result s).text ≡ line_text (next_line result.bench) bad_text → line_of s ≡ bad_line)
    × (line_of s ≡ bad_line → line_from named result s ≡ bad_result result.bench result.memory result.reply)
