-- What one call does to a rack, and a list of calls; `step` is what a call does to one tag.
use Rattle.std.specs.Prelude.{Bool, List, [], ◌∷◌, ℕ, suc, eqb, get_or}
use Rattle.parts.specs.Pick.{pick}
use Rattle.calls.specs.Passed.{Refusal, Call, judgement, unless_refused, Refused, Nothing, Silence, is_reply}
use Rattle.calls.specs.Calls.{CallAnswer, call_answer, Device, DeviceResult, device_result, Step, entry}
use Rattle.rack.specs.Rack.{Rack, RackCall, devices, racked, to_all, goes_to}
use Rattle.rack.specs.Rules.{rack_rules}

-- ---- the tags, each for itself
-- one that the signal does not reach
abbrev pub unreached : Call → Device → DeviceResult
unreached call d = device_result (call_answer Nothing call.buffer) d

-- tag i; each is handed the buffer as the call hands it in
unfoldable pub turn_of : Step → RackCall → ℕ → Device → DeviceResult
turn_of step call i d = pick (goes_to call i) (step d call.handed) (unreached call.handed d)

-- those from number i on
unfoldable pub turns_of : Step → RackCall → ℕ → List Device → List DeviceResult
turns_of step call i [] = []
turns_of step call i (d ∷ rest) = turn_of step call i d ∷ turns_of step call (suc i) rest

unfoldable pub left_by : List DeviceResult → List Device
left_by [] = []
left_by (result ∷ rest) = result.device ∷ left_by rest

unfoldable pub said_by : List DeviceResult → List CallAnswer
said_by [] = []
said_by (result ∷ rest) = result.says ∷ said_by rest

-- ---- the rack's answer: with the whole reply buffer as the call leaves it, and the numbers of the tags that answered
pub record RackAnswer : Type 0 where
  pub says : CallAnswer
  pub report : List ℕ

abbrev pub rack_answer : CallAnswer → List ℕ → RackAnswer
rack_answer says report = record { says = says; report = report }

-- "the rack reports which tags answered": those with a reply, an error reply too; a field change and a wire signal have none
unfoldable pub who_replied : List CallAnswer → List Bool
who_replied [] = []
who_replied (answer ∷ answers) = is_reply answer.answer ∷ who_replied answers

-- the numbers of those that did, rising, where the first has number i
unfoldable pub numbers_from : ℕ → List Bool → List ℕ
numbers_from i [] = []
numbers_from i (replied ∷ rest) = pick replied (i ∷ numbers_from (suc i) rest) (numbers_from (suc i) rest)

-- "the reply buffer holds the lowest-numbered one's reply"; without a reply, another answer
unfoldable pub lowest_reply : CallAnswer → List CallAnswer → CallAnswer
lowest_reply other [] = other
lowest_reply other (answer ∷ answers) = pick (is_reply answer.answer) answer (lowest_reply other answers)

-- without a reply a frame and an end-of-frame are silence, a field change has no answer, and every byte of the buffer stays
abbrev pub no_reply : Call → CallAnswer
no_reply call = call_answer (pick (eqb call.code 2) Nothing Silence) call.buffer

-- of a signal that goes to one tag, that tag's answer
unfoldable pub together : RackCall → List CallAnswer → RackAnswer
together call answers =
    rack_answer
    (pick (to_all call.handed.code) (lowest_reply (no_reply call.handed) answers) (get_or answers call.to (no_reply call.handed)))
    (numbers_from 0 (who_replied answers))

-- "A refusal returns the number"; nobody answered
abbrev pub rack_refused : Refusal → Call → RackAnswer
rack_refused refusal call = rack_answer (call_answer (Refused refusal) call.buffer) []

-- ---- one call
pub record RackResult : Type 0 where
  pub says : RackAnswer
  pub rack : Rack

abbrev pub rack_result : RackAnswer → Rack → RackResult
rack_result says rack = record { says = says; rack = rack }

abbrev pub RackStep : Type 0
RackStep = Rack → RackCall → RackResult

-- from what the tags did
abbrev pub gathered : RackCall → List DeviceResult → RackResult
gathered call results = rack_result (together call (said_by results)) (racked (left_by results))

-- one that is not refused
unfoldable pub rack_acts : Step → Rack → RackCall → RackResult
rack_acts step rack call = gathered call (turns_of step call 0 (devices rack))

-- the refusals in their order; "a refused call changes nothing" in any tag
unfoldable pub rack_step : Step → Rack → RackCall → RackResult
rack_step step rack call =
    unless_refused (judgement (rack_rules rack call)) (λ (refusal : Refusal). rack_result (rack_refused refusal call.handed) rack)
    (rack_acts step rack call)

-- of tags as the entry point has them
abbrev pub rack_entry : RackStep
rack_entry = rack_step entry

-- ---- a list of calls, each of which gets the rack that the last one left: the answers in their order, and the rack at its end
pub record RackRunResult : Type 0 where
  pub answers : List RackAnswer
  pub rack : Rack

abbrev pub rack_run_result : List RackAnswer → Rack → RackRunResult
rack_run_result answers rack = record { answers = answers; rack = rack }

unfoldable pub rack_run : RackStep → Rack → List RackCall → RackRunResult
rack_run go rack [] = rack_run_result [] rack
rack_run go rack (call ∷ calls) =
    let result = go rack call in
    let rest = rack_run go result.rack calls in
    rack_run_result (result.says ∷ rest.answers) rest.rack
