-- 01's table of refusals, "given exactly when, in this order": the rules, the order in which a caller judges them, and the first that applies.
use Rattle.std.specs.Prelude.{Bool, not, ◌&&◌, ◌||◌, Result, Ok, Err, List, [], ◌∷◌, ◌++◌, ℕ, ltb, eqb, length}
use Rattle.tag.specs.declared.Tag.{Tag}
use Rattle.tag.specs.Layout.{memory_bytes, reply_bytes}
use Rattle.ranges.specs.Ranges.{in_range}
use Rattle.page.specs.PageRange.{bus_in_range}
use Rattle.rule_list.specs.RuleList.{first_says}
use Rattle.signal_table.specs.Table.{signal_in_range}
use Rattle.refusals.specs.Call.{Call}
use Rattle.refusals.specs.declared.Refusal.{Refusal}
use Rattle.refusals.specs.declared.Refusal.TheVariants.{MemoryLength, ReplyShort, SignalUnknown, OutOfRange, RackSize, NoSuchTag, EqualUids, StateLength, UidLength}

-- ---- the numbers
unfoldable pub number : Refusal → ℕ
number MemoryLength = 1
number ReplyShort = 2
number SignalUnknown = 3
number OutOfRange = 4
-- of a rack alone, 02: "5 rack empty or above 16; 6 no such tag; 7 two equal UIDs"
number RackSize = 5
number NoSuchTag = 6
number EqualUids = 7
-- of the library for C alone
number StateLength = 13
number UidLength = 14

-- of one tag's refusals, 1 and 4 look at the tag or its memory; the others look at what the call hands in alone
unfoldable pub looks_at_tag : Refusal → Bool
looks_at_tag refusal = eqb (number refusal) 1 || eqb (number refusal) 4

-- ---- the rules, each a condition with its refusal; m is the memory
pub record RefusalRule : Type 0 where
  pub applies : Bool
  pub refusal : Refusal

abbrev pub refusal_rule : Bool → Refusal → RefusalRule
refusal_rule on refusal = record { applies = on; refusal = refusal }

-- "tag memory is not 1,024 bytes"
abbrev pub memory_rule : List ℕ → RefusalRule
memory_rule m = refusal_rule (not (eqb (length m) memory_bytes)) MemoryLength

-- "reply buffer is shorter than 643"
abbrev pub reply_rule : Call → RefusalRule
reply_rule call = refusal_rule (ltb (length call.buffer) reply_bytes) ReplyShort

-- "signal code unknown, or its value out of range"
abbrev pub signal_rule : Call → RefusalRule
signal_rule call = refusal_rule (not (signal_in_range call.code call.value)) SignalUnknown

-- 01's sentence "Ranges", whole
unfoldable pub tag_in_range : Tag → List ℕ → Bool
tag_in_range t m = in_range t && bus_in_range t.host.bus t.host.counter t.core t.host.session m

-- "state breaks a range below"
abbrev pub range_rule : Tag → List ℕ → RefusalRule
range_rule t m = refusal_rule (not (tag_in_range t m)) OutOfRange

-- ---- the order: of a call, first what is judged without its state, then the rest
abbrev pub call_rules : List ℕ → Call → List RefusalRule
call_rules m call = memory_rule m ∷ reply_rule call ∷ signal_rule call ∷ []

abbrev pub later_rules : Tag → List ℕ → Call → List RefusalRule
later_rules t m call = range_rule t m ∷ []

abbrev pub entry_rules : Tag → List ℕ → Call → List RefusalRule
entry_rules t m call = call_rules m call ++ later_rules t m call

-- those of them that look at what the call hands in alone
abbrev pub argument_rules : Call → List RefusalRule
argument_rules call = reply_rule call ∷ signal_rule call ∷ []

-- of a fresh tag
abbrev pub fresh_rules : List ℕ → List RefusalRule
fresh_rules m = memory_rule m ∷ []

-- ---- the refusal of a call: that of the first rule that applies
-- what judging finds
abbrev pub Judgement : Type 0
Judgement = Result (Unit {0}) Refusal

unfoldable pub judgement : List RefusalRule → Judgement
judgement rules = first_says (λ (rule : RefusalRule). rule.applies) (λ (rule : RefusalRule). Err rule.refusal) (Ok tt) rules

-- what a refusal gives, and what a call gives that no rule refuses
unfoldable pub unless_refused : {A : Type 0} → Judgement → (Refusal → A) → A → A
unless_refused (Ok tt) refuses serves = serves
unless_refused (Err refusal) refuses serves = refuses refusal
