-- "An installer wants the first slot in which two tags answer, and looking stops there".
use Rattle.std.specs.Prelude.{Bool, not, ◌&&◌, ◌||◌, Option, Some, None, Result, Ok, Err, List, [], ◌∷◌, ℕ, zero, suc, ltb, length}
use Rattle.parts.specs.Pick.{pick}
use Rattle.crc.specs.Crc.{good_frame}
use Rattle.frame.specs.Fields.{inventory_flag}
use Rattle.inventory.specs.Inventory.{is_malformed, one_slot}
use Rattle.refusals.specs.declared.Refusal.{Refusal}
use Rattle.refusals.specs.Call.{handed_in}
use Rattle.refusals.specs.Refusals.{RefusalRule, reply_rule, judgement, unless_refused}
use Rattle.rack_claims.specs.Passed.{Rack, RackCall, rack_call, rack_memory_rule, rack_range_rule, size_rule, uids_rule, RackResult, RackStep, rack_entry}

-- ---- what it sends: the frame f or an end-of-frame, to all, with the reply buffer o
abbrev pub sends_frame : List ℕ → List ℕ → RackCall
sends_frame o f = rack_call (handed_in o 8 0 f) 0

abbrev pub sends_end : List ℕ → RackCall
sends_end o = rack_call (handed_in o 9 0 []) 0

-- the end-of-frame after a call is handed the buffer as that left it
abbrev pub sends_next : RackResult → RackCall
sends_next result = sends_end result.says.says.buffer

-- "if well-formed for sixteen slots, CRC right"
unfoldable pub opens_sixteen : List ℕ → Bool
opens_sixteen f =
    inventory_flag f && not (ltb (length f) 4 || ltb 270 (length f)) && good_frame f && not (is_malformed f) && not (one_slot f)

-- "it sends the given frame (slot 0) and", if so, "ends-of-frame"
abbrev pub slot_count : List ℕ → ℕ
slot_count f = pick (opens_sixteen f) 16 1

-- what it is answered with: a refusal; that in no slot two tags answered; or the first slot in which two did
abbrev pub SearchAnswer : Type 0
SearchAnswer = Result (Option ℕ) Refusal

-- ---- what it leaves: its answer, the rack and the reply buffer
pub record SearchResult : Type 0 where
  pub answer : SearchAnswer
  pub rack : Rack
  pub buffer : List ℕ

abbrev pub search_result : SearchAnswer → Rack → List ℕ → SearchResult
search_result answer rack o = record { answer = answer; rack = rack; buffer = o }

-- ---- the search
-- a slot's signal has reached every tag, and two or more answered it
abbrev pub collides : RackResult → Bool
collides result = ltb 1 (length result.says.report)

-- n slots from number k on, the first of them opened by the call
unfoldable pub look : RackStep → ℕ → ℕ → Rack → RackCall → SearchResult
look go zero k rack call = search_result (Ok None) rack call.handed.buffer
look go (suc n) k rack call =
    let result = go rack call in
    pick (collides result) (search_result (Ok (Some k)) result.rack result.says.says.buffer)
    (look go n (suc k) result.rack (sends_next result))

-- its refusals: 1, 2, 4, 5 and 7
abbrev pub search_rules : Rack → List ℕ → List RefusalRule
search_rules rack o = rack_memory_rule rack ∷ reply_rule (handed_in o 8 0 []) ∷ rack_range_rule rack ∷ size_rule rack ∷ uids_rule rack ∷ []

unfoldable pub search_of : RackStep → Rack → List ℕ → List ℕ → SearchResult
search_of go rack o f =
    unless_refused (judgement (search_rules rack o)) (λ (refusal : Refusal). search_result (Err refusal) rack o)
    (look go (slot_count f) 0 rack (sends_frame o f))

-- over the rack of the entry point
abbrev pub search_entry : Rack → List ℕ → List ℕ → SearchResult
search_entry = search_of rack_entry
