-- Without its added fields the output is the one without names. Assumes nothing.
use mathlib.Core.Path.{◌≡◌, refl, sym, ap, ◌∙◌}
use mathlib.Core.Bool.{true, false}
use mathlib.Core.List.{List, [], ◌∷◌, ◌++◌, append_assoc}
use Prim.Native.Nat.{ℕ, ◌+◌, ◌≤◌, ◌<◌}
use native.Mathlib.Omega.{arith}
use lib.Dec.{eqb, leb}
use borrow.Author.Tests.{leb-true, le-ltb, lt-ltb, ne_eqb}
use Rattle.parts.specs.Pick.{pick}
use Rattle.parts.proofs.Bools.{and_left, and_right}
use Rattle.parts.proofs.Picks.{pick_case}
use Rattle.text.specs.Decimal.{decimal}
use Rattle.crc.specs.Crc.{closed}
use Rattle.refusals.specs.Call.{handed_in}
use Rattle.model.specs.Step.{step_of}
use Rattle.rule_names.specs.Names.{name_at}
use Rattle.rule_names.proofs.Laws.{plain, name_plain}
use Rattle.printing.specs.Text.{bad_text, answer_text, name_field, line_text}
use Rattle.printing.proofs.Plain.{digits_plain, answer_plain}
use Rattle.bench_start.specs.declared.Bench.{Bench}
use Rattle.bench_start.specs.Start.{next_line}
use Rattle.reading.specs.Line.{ScriptLine, bad_line, signal_line, frame_line, line_of}
use Rattle.stream.specs.Passed.{rule_named, bench_call, line_result, bench_of, BenchState, line_from, bench_after}
use Rattle.line_stream.specs.Lines.{lines_of}
use Rattle.line_stream.specs.Output.{texts_of}
use Rattle.stream.specs.Program.{bench_program}
use Rattle.stream_claims.specs.Output.{fresh_start}
use Rattle.stream_claims.specs.Names.{without_from, without_fields, FieldsAdded, WithoutNames}

-- ---- bytes that are neither tab nor line feed
byte_kept : (tabs x : ℕ) (s : List ℕ) → 0x20 ≤ x → tabs < 2 → without_from tabs (x ∷ s) ≡ x ∷ without_from tabs s
unfolding without_from pick
byte_kept tabs x s h l = rw (ne_eqb x 0x09 (λ e. omega arith), ne_eqb x 0x0A (λ e. omega arith), lt-ltb tabs 2 l)

byte_left_lem : (tabs x : ℕ) (s : List ℕ) → 0x20 ≤ x → 2 ≤ tabs → without_from tabs (x ∷ s) ≡ without_from tabs s
unfolding without_from pick
byte_left_lem tabs x s h l = rw (ne_eqb x 0x09 (λ e. omega arith), ne_eqb x 0x0A (λ e. omega arith), le-ltb tabs 2 l)

first_plain : (x : ℕ) (p : List ℕ) → plain (x ∷ p) ≡ true → 0x20 ≤ x
unfolding plain
first_plain x p h = leb-true 0x20 x (and_left (leb 0x20 x) (plain p) h)

rest_plain : (x : ℕ) (p : List ℕ) → plain (x ∷ p) ≡ true → plain p ≡ true
unfolding plain
rest_plain x p h = and_right (leb 0x20 x) (plain p) h

plain_kept : (tabs : ℕ) → tabs < 2 → (p s : List ℕ) → plain p ≡ true → without_from tabs (p ++ s) ≡ p ++ without_from tabs s
plain_kept tabs l [] s h = refl
plain_kept tabs l (x ∷ p) s h =
    byte_kept tabs x (p ++ s) (first_plain x p h) l ∙ ap (λ (z : List ℕ). x ∷ z) (plain_kept tabs l p s (rest_plain x p h))

plain_left : (p s : List ℕ) → plain p ≡ true → without_from 2 (p ++ s) ≡ without_from 2 s
plain_left [] s h = refl
plain_left (x ∷ p) s h = byte_left_lem 2 x (p ++ s) (first_plain x p h) (omega arith) ∙ plain_left p s (rest_plain x p h)

-- ---- a line
first_tab : (s : List ℕ) → without_from 0 (0x09 ∷ s) ≡ 0x09 ∷ without_from 1 s
unfolding without_from pick
first_tab s = refl

second_tab : (s : List ℕ) → without_from 1 (0x09 ∷ s) ≡ without_from 2 s
unfolding without_from pick
second_tab s = refl

line_feed : (tabs : ℕ) (s : List ℕ) → without_from tabs (0x0A ∷ s) ≡ 0x0A ∷ without_fields s
unfolding without_from pick
line_feed tabs s = refl

field_left : (rule : ℕ) (s : List ℕ) → without_from 1 (name_field rule ++ 0x0A ∷ s) ≡ 0x0A ∷ without_fields s
unfolding name_field
field_left rule s =
    pick_case (λ (f : List ℕ). without_from 1 (f ++ 0x0A ∷ s) ≡ 0x0A ∷ without_fields s) (eqb rule 0) [] (0x09 ∷ name_at rule)
    (λ _. line_feed 1 s)
    (λ _. second_tab (name_at rule ++ 0x0A ∷ s) ∙ plain_left (name_at rule) (0x0A ∷ s) (name_plain rule) ∙ line_feed 2 s)

line_then : (n : ℕ) (a f s : List ℕ) → line_text n (a ++ f) ++ s ≡ decimal n ++ 0x09 ∷ (a ++ (f ++ 0x0A ∷ s))
unfolding line_text
line_then n a f s =
    append_assoc (decimal n ++ 0x09 ∷ (a ++ f)) (0x0A ∷ []) s
    ∙ append_assoc (decimal n) (0x09 ∷ (a ++ f)) (0x0A ∷ s)
    ∙ ap (λ (z : List ℕ). decimal n ++ 0x09 ∷ z) (append_assoc a f (0x0A ∷ s))

line_without : (n : ℕ) (a : List ℕ) (rule : ℕ) (s : List ℕ) → plain a ≡ true
    → without_fields (line_text n (a ++ name_field rule) ++ s) ≡ line_text n (a ++ []) ++ without_fields s
line_without n a rule s h =
    let one : 1 < 2 = omega arith in
    let d = decimal n in
    ap without_fields (line_then n a (name_field rule) s)
    ∙ plain_kept 0 (omega arith) d (0x09 ∷ (a ++ (name_field rule ++ 0x0A ∷ s))) (digits_plain 20 n)
    ∙ ap (λ (z : List ℕ). d ++ z)
    (first_tab (a ++ (name_field rule ++ 0x0A ∷ s))
    ∙ ap (λ (z : List ℕ). 0x09 ∷ z) (plain_kept 1 one a (name_field rule ++ 0x0A ∷ s) h ∙ ap (λ (z : List ℕ). a ++ z) (field_left rule s)))
    ∙ sym (line_then n a [] (without_fields s))

call_without : (b : Bench) (m o : List ℕ) (code value : ℕ) (f s : List ℕ)
    → without_fields ((bench_call true b m o code value f).text ++ s) ≡ (bench_call false b m o code value f).text ++ without_fields s
unfolding name_field pick
call_without b m o code value f s =
    let result = step_of b.tag m (handed_in o code value f) in
    line_without (next_line b) (answer_text result.answer result.reply) (rule_named true b.tag m code value f) s (answer_plain result.answer result.reply)

result_without : (x : ScriptLine) (b : Bench) (m o s : List ℕ)
    → without_fields ((line_result true x b m o).text ++ s) ≡ (line_result false x b m o).text ++ without_fields s
unfolding line_result name_field plain pick
result_without bad_line b m o s = line_without (next_line b) bad_text 0 s refl
result_without (signal_line code value) b m o s = call_without b m o code value [] s
result_without (frame_line f) b m o s = call_without b m o 8 0 (closed f) s

-- names change nothing that is carried
same_after : (x : ScriptLine) (b : Bench) (m o : List ℕ) → bench_after (line_result true x b m o) ≡ bench_after (line_result false x b m o)
unfolding line_result
same_after bad_line b m o = refl
same_after (signal_line code value) b m o = refl
same_after (frame_line f) b m o = refl

-- ---- lines
next_without : (c : BenchState) (l s : List ℕ) → without_fields ((line_from true c l).text ++ s) ≡ (line_from false c l).text ++ without_fields s
unfolding bench_of
next_without c l s = result_without (line_of l) c.bench c.memory c.reply s

next_same : (c : BenchState) (l : List ℕ) → bench_after (line_from true c l) ≡ bench_after (line_from false c l)
unfolding bench_of
next_same c l = same_after (line_of l) c.bench c.memory c.reply

texts_without : (ls : List (List ℕ)) (c : BenchState) → without_fields (texts_of (bench_program true) c ls) ≡ texts_of (bench_program false) c ls
unfolding texts_of without_from
texts_without [] c = refl
texts_without (l ∷ ls) c =
    next_without c l (texts_of (bench_program true) (bench_after (line_from true c l)) ls)
    ∙ ap (λ (z : List ℕ). (line_from false c l).text ++ z)
    (texts_without ls (bench_after (line_from true c l)) ∙ ap (λ (u : BenchState). texts_of (bench_program false) u ls) (next_same c l))

-- ---- the claims
pub fields_added : FieldsAdded
fields_added c s = texts_without (lines_of s) c

pub without_names : WithoutNames
without_names s = fields_added fresh_start s
