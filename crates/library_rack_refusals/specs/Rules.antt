-- The refusals of the library's rack calls: the rack's, and the library's own. The number of tags n is an argument, and s has their states end to end.
use Rattle.std.specs.Prelude.{not, List, [], ◌∷◌, ◌++◌, ℕ, ◌*◌, ltb, eqb, length}
use Rattle.parts.specs.Pick.{pick}
use Rattle.state.specs.Layout.{state_bytes}
use Rattle.rack_states.specs.States.{tags_at, all_decode}
use Rattle.refusals.specs.declared.Refusal.TheVariants.{OutOfRange, StateLength}
use Rattle.refusals.specs.Call.{Call, handed_in}
use Rattle.refusals.specs.Refusals.{RefusalRule, refusal_rule, reply_rule, signal_rule}
use Rattle.rack.specs.Rack.{Rack, RackCall, rack_of}
use Rattle.rack.specs.Rules.{rack_memory_rule, rack_range_rule, most_tags, size_rule, named_rule, uids_rule}

-- the rack that is meant
abbrev pub rack_at : ℕ → List ℕ → List ℕ → Rack
rack_at n s m = rack_of (tags_at n s) m

-- ---- the library's own rules
-- the states have not a state's length for each tag
abbrev pub states_rule : ℕ → List ℕ → RefusalRule
states_rule n s = refusal_rule (not (eqb (length s) (n * state_bytes))) StateLength

-- bytes that decode to no state break a range
abbrev pub all_decode_rule : ℕ → List ℕ → RefusalRule
all_decode_rule n s = refusal_rule (not (all_decode n s)) OutOfRange

-- ---- the order: 13 comes right before the first refusal that reads a state, which is 4: bytes that decode to no state, or a tag that breaks a range
-- of a step: 1, 2, 3, 13, 4, 5, 6 and 7
abbrev pub rack_step_rules : ℕ → List ℕ → List ℕ → RackCall → List RefusalRule
rack_step_rules n s m call =
    let rack = rack_at n s m in
    rack_memory_rule rack
    ∷ reply_rule call.handed
    ∷ signal_rule call.handed
    ∷ states_rule n s
    ∷ all_decode_rule n s
    ∷ rack_range_rule rack
    ∷ size_rule rack
    ∷ named_rule rack call
    ∷ uids_rule rack
    ∷ []

-- of a search with the reply buffer o: 1, 2, 13, 4, 5 and 7
abbrev pub rack_search_rules : ℕ → List ℕ → List ℕ → List ℕ → List RefusalRule
rack_search_rules n s m o =
    let rack = rack_at n s m in
    rack_memory_rule rack
    ∷ reply_rule (handed_in o 8 0 [])
    ∷ states_rule n s
    ∷ all_decode_rule n s
    ∷ rack_range_rule rack
    ∷ size_rule rack
    ∷ uids_rule rack
    ∷ []

-- ---- those of them that are judged before the tags are taken from their states: of more than sixteen tags all that can come up
abbrev pub rack_bytes_rules : ℕ → List ℕ → List ℕ → Call → List RefusalRule
rack_bytes_rules n s m call =
    let rack = rack_at n s m in
    rack_memory_rule rack
    ∷ reply_rule call
    ∷ signal_rule call
    ∷ states_rule n s
    ∷ all_decode_rule n s
    ∷ pick (ltb most_tags n) (rack_range_rule rack ∷ size_rule rack ∷ []) []
