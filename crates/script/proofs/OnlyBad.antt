-- From the start on every line keeps the tag in range, and only a bad line prints ?. Assumes nothing.
use mathlib.Core.Path.{◌≡◌, refl, sym, ap, subst, ◌∙◌}
use mathlib.Core.Bool.{Bool, true, not, ◌&&◌, ◌||◌}
use mathlib.Core.Logic.{⊎_elim}
use mathlib.Core.List.{List, [], ◌∷◌, ◌++◌}
use Prim.Native.Nat.{ℕ, ◌+◌, ◌-◌, ◌/◌, ◌%◌, ◌<◌}
use Rattle.std.specs.Prelude.{Ok}
use native.Mathlib.Omega.{arith}
use lib.Dec.{T, leb, ltb, eqb}
use lib.Pow.{are_bytes as areAll}
use lib.ListN.{length, drop, get_or, replicate}
use borrow.Author.Tests.{eq-eqb, eqb-true, le-leb, le-ltb, lt-ltb}
use Rattle.parts.specs.Pick.{pick}
use Rattle.parts.specs.Bytes.{are_bytes}
use Rattle.parts.proofs.Bools.{and_left, and_right, and_both, or_cases}
use Rattle.parts.proofs.Picks.{pick_case}
use Rattle.crc.specs.Crc.{crc_of, crc_bytes, closed}
use Rattle.crc.proofs.Below.{crc_below}
use Rattle.tag.specs.Layout.{reply_bytes}
use Rattle.tag.specs.Supply.{fresh_tag}
use Rattle.model.specs.declared.Answer.TheVariants.{Nothing}
use Rattle.signal_table.specs.Table.{signal_table, signal_found, is_found, signal_in_range}
use Rattle.signal_table.proofs.Laws.{byte_known, frame_known}
use Rattle.refusals.specs.Call.{handed_in}
use Rattle.model.specs.Step.{StepResult, FreshResult, fresh_result, step_of, fresh_of, is_refused}
use Rattle.refusals.specs.Refusals.{argument_rules, judgement, unless_refused}
use Rattle.keys.specs.declared.Uid.{Uid}
use Rattle.rule_list.specs.RuleList.{first_says}
use Rattle.refusals.proofs.Laws.{NoneApplies, no_refusal}
use Rattle.model.proofs.Acts.{signal_of_call, fit_acts}
use Rattle.model.proofs.Served.{act_served}
use Rattle.model.proofs.Room.{step_room}
use Rattle.model.specs.Claims.{Fit}
use Rattle.model.proofs.Kept.{keeps, fresh_fits}
use Rattle.hexadecimal.specs.Hex.{all_hex, hex_byte, hex_bytes}
use Rattle.hexadecimal.proofs.HexLaws.{value_small}
use Rattle.reading.specs.Line.{ScriptLine, bad_line, signal_line, frame_line, longest, alone, level, byte_sent, frame_sent, tabbed, line_of}
use Rattle.printing.specs.Text.{bad_text, line_text}
use Rattle.bench_start.specs.Start.{next_line, bench_uid, bench_start_of}
use Rattle.script.specs.Bench.{bench_call, line_result, bench_of}
use Rattle.script.specs.Lines.{BenchState, line_from, bench_after, after_lines, before_lines}
use Rattle.script.specs.Claims.{BenchFit, StartFits, LineKeepsFit, OnlyBadRefused}
use Rattle.printing.proofs.Marks.{marked, same_answer}

-- ---- what a line says has its value in range, and a frame's bytes are bytes
sane : ScriptLine → Bool
sane bad_line = true
sane (signal_line code value) = signal_in_range code value
sane (frame_line s) = are_bytes s

abbrev Sane : ScriptLine → Type 0
Sane x = sane x ≡ true

alone_sane : (x : ℕ) → Sane (alone x)
unfolding alone sane signal_in_range is_found signal_found signal_table first_says pick
alone_sane x =
    pick_case Sane (eqb x 0x53) _ _ (λ _. refl)
    (λ _. pick_case Sane (eqb x 0x50) _ _ (λ _. refl)
    (λ _. pick_case Sane (eqb x 0x44) _ _ (λ _. refl)
    (λ _. pick_case Sane (eqb x 0x45) _ _ (λ _. refl)
    (λ _. refl))))

level_sane : (code : ℕ) (s : List ℕ) → signal_in_range code 0 ≡ true → signal_in_range code 1 ≡ true → Sane (level code s)
unfolding level sane
level_sane code s z o =
    let x = get_or s 0 0 in
    pick_case Sane (eqb (length s) 1 && (eqb x 0x30 || eqb x 0x31)) (signal_line code (x - 0x30)) bad_line
    (λ h. ⊎_elim
    (λ e. let v : x - 0x30 ≡ 0 = omega (arith, eqb-true x 0x30 e) in rw v z)
    (λ e. let v : x - 0x30 ≡ 1 = omega (arith, eqb-true x 0x31 e) in rw v o)
    (or_cases (eqb x 0x30) (eqb x 0x31) (and_right (eqb (length s) 1) (eqb x 0x30 || eqb x 0x31) h)))
    (λ _. refl)

byte_below : (x y : ℕ) → hex_byte x y < 256
byte_below x y = omega (arith, value_small x, value_small y)

byte_sane : (s : List ℕ) → Sane (byte_sent s)
unfolding byte_sent sane
byte_sane s =
    pick_case Sane (eqb (length s) 2 && all_hex s) (signal_line 4 (hex_byte (get_or s 0 0) (get_or s 1 0))) bad_line
    (λ h. byte_known _ (le-leb (hex_byte (get_or s 0 0) (get_or s 1 0)) 255 (omega (arith, byte_below (get_or s 0 0) (get_or s 1 0)))))
    (λ _. refl)

bytes_read : (s : List ℕ) → are_bytes (hex_bytes s) ≡ true
unfolding hex_bytes are_bytes
bytes_read [] = refl
bytes_read (x ∷ []) = refl
bytes_read (x ∷ y ∷ s) = and_both (ltb (hex_byte x y) 256) (are_bytes (hex_bytes s)) (lt-ltb (hex_byte x y) 256 (byte_below x y)) (bytes_read s)

frame_sane : (s : List ℕ) → Sane (frame_sent s)
unfolding frame_sent sane
frame_sane s =
    pick_case Sane (leb 2 (length s) && eqb (length s % 2) 0 && all_hex s) (frame_line (hex_bytes s)) bad_line
    (λ h. bytes_read s)
    (λ _. refl)

tabbed_sane : (x : ℕ) (s : List ℕ) → Sane (tabbed x s)
unfolding tabbed sane signal_in_range is_found signal_found signal_table first_says pick
tabbed_sane x s =
    pick_case Sane (eqb x 0x56) _ _ (λ _. level_sane 1 s refl refl)
    (λ _. pick_case Sane (eqb x 0x46) _ _ (λ _. level_sane 2 s refl refl)
    (λ _. pick_case Sane (eqb x 0x42) _ _ (λ _. byte_sane s)
    (λ _. pick_case Sane (eqb x 0x47) _ _ (λ _. level_sane 5 s refl refl)
    (λ _. pick_case Sane (eqb x 0x52) _ _ (λ _. frame_sane s)
    (λ _. refl)))))

line_sane : (s : List ℕ) → Sane (line_of s)
unfolding line_of sane
line_sane s =
    pick_case Sane (ltb longest (length s)) _ _ (λ _. refl)
    (λ _. pick_case Sane (eqb (length s) 1) _ _ (λ _. alone_sane (get_or s 0 0))
    (λ _. pick_case Sane (eqb (get_or s 1 0) 0x09) _ _ (λ _. tabbed_sane (get_or s 0 0) (drop 2 s))
    (λ _. refl)))

-- ---- a frame with its CRC
same_bytes_lem : (s : List ℕ) → are_bytes s ≡ areAll s
unfolding are_bytes
same_bytes_lem [] = refl
same_bytes_lem (x ∷ s) = ap (λ (b : Bool). ltb x 256 && b) (same_bytes_lem s)

bytes_append : (p q : List ℕ) → are_bytes p ≡ true → are_bytes q ≡ true → are_bytes (p ++ q) ≡ true
unfolding are_bytes
bytes_append [] q h k = k
bytes_append (x ∷ p) q h k =
    and_both (ltb x 256) (are_bytes (p ++ q)) (and_left (ltb x 256) (are_bytes p) h) (bytes_append p q (and_right (ltb x 256) (are_bytes p) h) k)

crc_bytes_lem : (s : List ℕ) → crc_of s < 65536 → are_bytes (crc_bytes s) ≡ true
unfolding are_bytes
crc_bytes_lem s h = rw (lt-ltb (crc_of s % 256) 256 (omega arith), lt-ltb (crc_of s / 256) 256 (omega arith))

closed_bytes : (s : List ℕ) → are_bytes s ≡ true → are_bytes (closed s) ≡ true
closed_bytes s h = bytes_append s (crc_bytes s) h (crc_bytes_lem s (crc_below s (subst T (sym (sym (same_bytes_lem s) ∙ h)) tt)))

-- ---- a call from a bench that fits
module _ (named : Bool) (c : BenchState) (f : BenchFit c) where
  none_refuses : (code value : ℕ) (s : List ℕ) → signal_in_range code value ≡ true → judgement (argument_rules (handed_in c.reply code value s)) ≡ Ok tt
  unfolding NoneApplies
  none_refuses code value s h = no_refusal (argument_rules (handed_in c.reply code value s)) (le-ltb (length c.reply) reply_bytes f.room, (ap not h, tt))

  call_answers : (code value : ℕ) (s : List ℕ) → signal_in_range code value ≡ true
      → (bench_call named c.bench c.memory c.reply code value s).text ≡ line_text (next_line c.bench) bad_text → ⊥
  call_answers code value s h e =
      let t = c.bench.tag in
      let call = handed_in c.reply code value s in
      let r = step_of t c.memory call in
      marked r.answer r.reply _
      (ap (λ (x : StepResult). is_refused x.answer) (fit_acts t c.memory call f.tag (none_refuses code value s h))
      ∙ act_served (signal_of_call call) t c.memory c.reply s)
      (same_answer (next_line c.bench) _ bad_text e)

  said_answers : (x : ScriptLine) → Sane x → (line_result named x c.bench c.memory c.reply).text ≡ line_text (next_line c.bench) bad_text → x ≡ bad_line
  unfolding line_result sane
  said_answers bad_line h e = refl
  said_answers (signal_line code value) h e = absurd (call_answers code value [] h e)
  said_answers (frame_line s) h e = absurd (call_answers 8 0 (closed s) frame_known e)

  call_fits : (code value : ℕ) (s : List ℕ) → are_bytes s ≡ true → BenchFit (bench_after (bench_call named c.bench c.memory c.reply code value s))
  call_fits code value s h = record {
    tag = keeps c.bench.tag c.memory (handed_in c.reply code value s) h f.tag;
    room = omega (arith, f.room, step_room c.bench.tag c.memory (handed_in c.reply code value s));
  }

  said_fits : (x : ScriptLine) → Sane x → BenchFit (bench_after (line_result named x c.bench c.memory c.reply))
  unfolding line_result sane are_bytes
  said_fits bad_line h = record { tag = f.tag; room = f.room }
  said_fits (signal_line code value) h = call_fits code value [] refl
  said_fits (frame_line s) h = call_fits 8 0 (closed s) (closed_bytes s h)

-- ---- the claims
fresh_served : (u : Uid) (m : List ℕ) → length m ≡ 1024 → fresh_of u m ≡ fresh_result Nothing (fresh_tag u) (replicate 1024 0)
unfolding fresh_of judgement first_says unless_refused pick
fresh_served u m l = rw (eq-eqb (length m) 1024 l)

pub start_fits : StartFits
unfolding bench_start_of
start_fits m o l room =
    record { tag = subst (λ (x : FreshResult). Fit x.tag x.memory) (sym (fresh_served bench_uid m l)) (fresh_fits bench_uid); room = room }

pub line_keeps_fit : LineKeepsFit
unfolding bench_of
line_keeps_fit named c s f = said_fits named c f (line_of s) (line_sane s)

lines_keep_fit : (named : Bool) (ls : List (List ℕ)) (c : BenchState) → BenchFit c → BenchFit (after_lines named c ls)
unfolding after_lines
lines_keep_fit named [] c f = f
lines_keep_fit named (l ∷ ls) c f = lines_keep_fit named ls (bench_after (line_from named c l)) (line_keeps_fit named c l f)

pub only_bad_refused : OnlyBadRefused
unfolding bench_of line_result
only_bad_refused named m o l room ls s =
    let c = after_lines named (before_lines m o) ls in
    let f = lines_keep_fit named ls (before_lines m o) (start_fits m o l room) in
    (λ e. said_answers named c f (line_of s) (line_sane s) e, λ e. ap (λ (x : ScriptLine). line_result named x c.bench c.memory c.reply) e)
