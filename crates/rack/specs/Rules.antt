-- 02's refusals of a rack: "1 and 4 read every tag; 5 rack empty or above 16; 6 no such tag; 7 two equal UIDs; all after 1 to 4".
use Rattle.std.specs.Prelude.{◌≡◌, Bool, true, false, not, ◌&&◌, ◌||◌, List, [], ◌∷◌, ℕ, leb, ltb, eqb, length, Ok}
use Rattle.keys.specs.declared.Uid.{Uid}
use Rattle.keys.specs.Keys.{same_uid}
use Rattle.tag.specs.declared.Tag.{Tag}
use Rattle.calls.specs.Passed.{Refusal, MemoryLength, OutOfRange, RackSize, NoSuchTag, EqualUids, number, RefusalRule, refusal_rule, reply_rule, signal_rule, tag_in_range, judgement}
use Rattle.calls.specs.Calls.{Device}
use Rattle.rack.specs.Rack.{Rack, RackCall, memory_sizes, devices, to_all}

-- ---- the rules that look at the rack alone
-- the memory is not the tags' memories together
abbrev pub rack_memory_rule : Rack → RefusalRule
rack_memory_rule rack = refusal_rule (not (eqb (length rack.memory) (memory_sizes rack.tags))) MemoryLength

-- a tag breaks a range
unfoldable pub all_in_range : List Device → Bool
all_in_range [] = true
all_in_range (d ∷ rest) = tag_in_range d.tag d.memory && all_in_range rest

abbrev pub rack_range_rule : Rack → RefusalRule
rack_range_rule rack = refusal_rule (not (all_in_range (devices rack))) OutOfRange

-- "rack empty or above 16"
abbrev pub most_tags : ℕ
most_tags = 16

abbrev pub size_rule : Rack → RefusalRule
size_rule rack = refusal_rule (eqb (length rack.tags) 0 || ltb most_tags (length rack.tags)) RackSize

-- "two equal UIDs"
unfoldable pub has_uid : Uid → List Tag → Bool
has_uid u [] = false
has_uid u (t ∷ tags) = same_uid u t.uid || has_uid u tags

unfoldable pub equal_uids : List Tag → Bool
equal_uids [] = false
equal_uids (t ∷ tags) = has_uid t.uid tags || equal_uids tags

abbrev pub uids_rule : Rack → RefusalRule
uids_rule rack = refusal_rule (equal_uids rack.tags) EqualUids

-- a rack to which none of them applies
abbrev pub rack_alone_rules : Rack → List RefusalRule
rack_alone_rules rack = rack_memory_rule rack ∷ rack_range_rule rack ∷ size_rule rack ∷ uids_rule rack ∷ []

abbrev pub WellFormed : Rack → Type 0
WellFormed rack = judgement (rack_alone_rules rack) ≡ Ok tt

-- their refusals: 1, 4, 5 and 7
unfoldable pub looks_at_rack : Refusal → Bool
looks_at_rack refusal = eqb (number refusal) 1 || eqb (number refusal) 4 || eqb (number refusal) 5 || eqb (number refusal) 7

-- ---- of a call: a signal that goes to one tag names one that the rack has
abbrev pub named_rule : Rack → RackCall → RefusalRule
named_rule rack call = refusal_rule (not (to_all call.handed.code) && leb (length rack.tags) call.to) NoSuchTag

-- the order
abbrev pub rack_rules : Rack → RackCall → List RefusalRule
rack_rules rack call =
    rack_memory_rule rack
    ∷ reply_rule call.handed
    ∷ signal_rule call.handed
    ∷ rack_range_rule rack
    ∷ size_rule rack
    ∷ named_rule rack call
    ∷ uids_rule rack
    ∷ []
