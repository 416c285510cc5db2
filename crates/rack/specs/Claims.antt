-- What is proved of the definitions of a rack.
use Rattle.std.specs.Prelude.{◌≡◌, Bool, true, false, not, ◌&&◌, ◌||◌, List, [], ◌∷◌, ℕ, suc, ◌<◌, leb, eqb, length, get_or, Ok, Err}
use Rattle.parts.specs.Pick.{pick}
use Rattle.parts.specs.Bytes.{are_bytes}
use Rattle.calls.specs.Passed.{Refusal, Call, number, RefusalRule, judgement, Refused, is_reply}
use Rattle.signal_table.specs.declared.Signal.{Signal}
use Rattle.signal_table.specs.declared.Signal.TheVariants.{Wire, Field, Frame, EndOfFrame}
use Rattle.signal_table.specs.Table.{signal_in_range, signal_by}
use Rattle.calls.specs.Calls.{CallAnswer, call_answer, Step, entry}
use Rattle.rack.specs.Rack.{Rack, RackCall, rack_call, memory_sizes, device_at, devices, racked, to_all, goes_to}
use Rattle.rack.specs.Rules.{rack_rules}
use Rattle.rack.specs.Step.{rack_answer, who_replied, numbers_from, lowest_reply, rack_result, rack_step, rack_entry}

-- ---- the memory
-- cut off one after the other, each tag's bytes are those at its memory's place
abbrev pub OwnMemory : Type 0
OwnMemory = (rack : Rack) (i : ℕ) → i < length rack.tags → get_or (devices rack) i (device_at rack 0) ≡ device_at rack i

-- taken apart and put together, a rack that has its tags' bytes is the same
abbrev pub PutTogether : Type 0
PutTogether = (rack : Rack) → length rack.memory ≡ memory_sizes rack.tags → racked (devices rack) ≡ rack

-- ---- the report and the reply
unfoldable pub is_among : ℕ → List ℕ → Bool
is_among i [] = false
is_among i (n ∷ rest) = eqb n i || is_among i rest

-- numbers from i on, each above the one before it
unfoldable pub is_rising : ℕ → List ℕ → Bool
is_rising i [] = true
is_rising i (n ∷ rest) = leb i n && is_rising (suc n) rest

abbrev pub report_of : List CallAnswer → List ℕ
report_of answers = numbers_from 0 (who_replied answers)

pub record Reported (answers : List CallAnswer) (other : CallAnswer) : Type 0 where
  -- a number stands in the report exactly when the tag of that number replied
  pub exactly : (i : ℕ) → i < length answers → is_among i (report_of answers) ≡ is_reply (get_or answers i other).answer
  pub rising : is_rising 0 (report_of answers) ≡ true
  -- the reply is that of the report's first number; where it has none, the other answer
  pub lowest : lowest_reply other answers ≡ get_or answers (get_or (report_of answers) 0 (length answers)) other

abbrev pub ReportsReplies : Type 0
ReportsReplies = (answers : List CallAnswer) (other : CallAnswer) → Reported answers other

-- ---- whom a signal goes to: the wire's to one tag, the others to all
unfoldable pub is_wire : Signal → Bool
is_wire (Wire signal) = true
is_wire (Field on) = false
is_wire Frame = false
is_wire EndOfFrame = false

abbrev pub WireToOne : Type 0
WireToOne = (code value : ℕ) → signal_in_range code value ≡ true → to_all code ≡ not (is_wire (signal_by code value))

-- with a signal that goes to all the tag's number is "unread"
abbrev pub NumberUnread : Type 0
NumberUnread = (step : Step) (rack : Rack) (call : Call) (i j : ℕ) → to_all call.code ≡ true
    → rack_step step rack (rack_call call i) ≡ rack_step step rack (rack_call call j)

-- ---- the refusals, by their numbers
unfoldable pub refusal_numbers : List RefusalRule → List ℕ
refusal_numbers [] = []
refusal_numbers (rule ∷ rules) = number rule.refusal ∷ refusal_numbers rules

abbrev pub RefusalsInOrder : Type 0
RefusalsInOrder = (rack : Rack) (call : RackCall) → refusal_numbers (rack_rules rack call) ≡ 1 ∷ 2 ∷ 3 ∷ 4 ∷ 5 ∷ 6 ∷ 7 ∷ []

-- ---- one call
-- one that is refused changes no tag and no byte, and nobody answered
abbrev pub RefusedChangesNothing : Type 0
RefusedChangesNothing = (step : Step) (rack : Rack) (call : RackCall) (refusal : Refusal) → judgement (rack_rules rack call) ≡ Err refusal
    → rack_step step rack call ≡ rack_result (rack_answer (call_answer (Refused refusal) call.handed.buffer) []) rack

-- in any other, tag i steps if the signal goes to it, and else stays
pub record Served (rack : Rack) (call : RackCall) : Type 0 where
  pub tags : (i : ℕ) → i < length rack.tags
      → device_at (rack_entry rack call).rack i ≡ pick (goes_to call i) (entry (device_at rack i) call.handed).device (device_at rack i)
  -- a signal to one tag has that tag's answer
  pub named : to_all call.handed.code ≡ false → (rack_entry rack call).says.says ≡ (entry (device_at rack call.to) call.handed).says

abbrev pub ServesEach : Type 0
ServesEach = (rack : Rack) (call : RackCall) → are_bytes call.handed.frame ≡ true → judgement (rack_rules rack call) ≡ Ok tt → Served rack call
