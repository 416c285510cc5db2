-- Calls that are not refused. Assumes nothing.
use mathlib.Core.Path.{◌≡◌, ap, ◌∙◌}
use mathlib.Core.Bool.{true}
use mathlib.Core.List.{List}
use Prim.Native.Nat.{ℕ, ◌≤◌}
use lib.ListN.{length}
use borrow.Author.Tests.{eq-eqb, eqb-true, ltb-false, not-false}
use Rattle.std.specs.Prelude.{Ok}
use Rattle.parts.specs.Pick.{pick}
use Rattle.tag.specs.declared.Tag.{Tag}
use Rattle.tag.specs.Layout.{memory_bytes, reply_bytes}
use Rattle.rule_list.specs.RuleList.{first_says}
use Rattle.signal_table.specs.declared.Signal.{Signal}
use Rattle.signal_table.specs.Table.{signal_in_range, signal_by}
use Rattle.refusals.specs.declared.Refusal.{Refusal}
use Rattle.refusals.specs.declared.Refusal.TheVariants.{MemoryLength, ReplyShort, SignalUnknown, OutOfRange}
use Rattle.refusals.specs.Call.{Call}
use Rattle.refusals.specs.Refusals.{number, argument_rules, entry_rules, fresh_rules, tag_in_range, judgement, unless_refused, Judgement}
use Rattle.refusals.proofs.Laws.{applies_of, not_refused}
use Rattle.model.specs.Step.{refused, act_of, step_of}
use Rattle.model.specs.Claims.{Fit}

-- ---- what the judged things are then
module _ (t : Tag) (m : List ℕ) (c : Call) (h : judgement (entry_rules t m c) ≡ Ok tt) where
  pub size_of : length m ≡ memory_bytes
  unfolding applies_of first_says number pick
  size_of = eqb-true _ _ (not-false _ (not_refused MemoryLength (entry_rules t m c) h))

  pub room_of : reply_bytes ≤ length c.buffer
  unfolding applies_of first_says number pick
  room_of = ltb-false _ _ (not_refused ReplyShort (entry_rules t m c) h)

  pub signal_of_lem : signal_in_range c.code c.value ≡ true
  unfolding applies_of first_says number pick
  signal_of_lem = not-false _ (not_refused SignalUnknown (entry_rules t m c) h)

  pub range_of : tag_in_range t m ≡ true
  unfolding applies_of first_says number pick
  range_of = not-false _ (not_refused OutOfRange (entry_rules t m c) h)

pub fresh_size : (m : List ℕ) → judgement (fresh_rules m) ≡ Ok tt → length m ≡ memory_bytes
unfolding applies_of first_says number pick
fresh_size m h = eqb-true _ _ (not-false _ (not_refused MemoryLength (fresh_rules m) h))

-- ---- a call that is judged so does so
abbrev pub signal_of_call : Call → Signal
signal_of_call c = signal_by c.code c.value

judged_as : (t : Tag) (m : List ℕ) (c : Call) (j : Judgement) → judgement (entry_rules t m c) ≡ j
    → step_of t m c ≡ unless_refused j (λ (r : Refusal). refused r t m c.buffer) (act_of (signal_of_call c) t m c.buffer c.frame)
unfolding step_of
judged_as t m c j h =
    ap (λ (j : Judgement). unless_refused j (λ (r : Refusal). refused r t m c.buffer) (act_of (signal_of_call c) t m c.buffer c.frame)) h

pub acts : (t : Tag) (m : List ℕ) (c : Call) → judgement (entry_rules t m c) ≡ Ok tt
    → step_of t m c ≡ act_of (signal_of_call c) t m c.buffer c.frame
unfolding unless_refused
acts t m c h = judged_as t m c (Ok tt) h

-- ---- of a tag in range only what the call's own arguments tell is refused
pub fit_judged : (t : Tag) (m : List ℕ) (c : Call) → Fit t m → judgement (entry_rules t m c) ≡ judgement (argument_rules c)
unfolding judgement first_says pick
fit_judged t m c f = rw (eq-eqb (length m) memory_bytes f.size, f.range)

pub fit_step : (t : Tag) (m : List ℕ) (c : Call) → Fit t m
    → step_of t m c ≡ unless_refused (judgement (argument_rules c)) (λ (r : Refusal). refused r t m c.buffer) (act_of (signal_of_call c) t m c.buffer c.frame)
fit_step t m c f = judged_as t m c (judgement (argument_rules c)) (fit_judged t m c f)

-- where they tell none, none
pub fit_acts : (t : Tag) (m : List ℕ) (c : Call) → Fit t m → judgement (argument_rules c) ≡ Ok tt
    → step_of t m c ≡ act_of (signal_of_call c) t m c.buffer c.frame
fit_acts t m c f h = acts t m c (fit_judged t m c f ∙ h)
