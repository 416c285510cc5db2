-- "Demand 3 holds for each tag taken alone, its frames, field changes and refused calls being all the rack's."
use Rattle.std.specs.Prelude.{◌≡◌, true, false, not, ◌&&◌, List, [], ℕ, ◌<◌, length}
use Rattle.parts.specs.Pick.{pick}
use Rattle.refusals.specs.Call.{Call}
use Rattle.demand3.specs.Passed.{transfer_open, Fit, Waiting, no_transfer, inside, wait_run}
use Rattle.rack.specs.Passed.{CallAnswer, Device, entry}
use Rattle.demand3.specs.Demand3.{Agrees, is_closed}
use Rattle.rack.specs.Rack.{Rack, RackCall, device_at, devices}
use Rattle.rack.specs.Rules.{WellFormed}
use Rattle.rack.specs.Step.{RackStep, rack_entry, rack_run}
use Rattle.rack_claims.specs.Cut.{judged_calls, own_calls, of_each, answers_made}
use Rattle.rack_claims.specs.ItsTags.{rack_frames_fit, answers_alone}

-- ---- one tag of the rack: tag i's own calls, and the waiting tag that is handed them
abbrev pub own_of : RackStep → Rack → List RackCall → ℕ → List Call
own_of go rack calls i = own_calls i (judged_calls go rack calls)

abbrev pub waits_for : Device → List Call → Waiting
waits_for d calls = wait_run (no_transfer [] d) calls

pub record TagAgrees (go : RackStep) (rack : Rack) (calls : List RackCall) (i : ℕ) : Type 0 where
  -- demand 3, whole, of the tag alone and its own calls
  pub alone : Agrees entry (device_at rack i) (own_of go rack calls i)
  -- the waiting tag gives the answers of the tag alone, and ends as tag i does in the rack
  pub ends : waits_for (device_at rack i) (own_of go rack calls i)
      ≡ no_transfer (answers_alone (device_at rack i) (own_of go rack calls i)) (device_at (rack_run go rack calls).rack i)

-- of every rack and every list: asked is only that tag i is in range, and that it has no transfer open at the start and, as its waiting tag says, at the end.
-- The others may be in the middle of one.
abbrev pub EveryTag : RackStep → (Rack → List RackCall → ℕ → Type 0) → Type 0
EveryTag go P = (rack : Rack) (calls : List RackCall) (i : ℕ) → i < length rack.tags → rack_frames_fit calls ≡ true
    → Fit (device_at rack i).tag (device_at rack i).memory
    → transfer_open (device_at rack i).tag ≡ false → is_closed (waits_for (device_at rack i) (own_of go rack calls i)) ≡ true
    → P rack calls i

abbrev pub RackDemand3 : RackStep → Type 0
RackDemand3 go = EveryTag go (TagAgrees go)

-- for the entry point's rack that is what tag i itself shows: a list that it finishes with no transfer open is such a list
abbrev pub RackEndsAlike : Type 0
RackEndsAlike = (rack : Rack) (calls : List RackCall) (i : ℕ) → i < length rack.tags → rack_frames_fit calls ≡ true
    → Fit (device_at rack i).tag (device_at rack i).memory
    → transfer_open (device_at rack i).tag ≡ false → transfer_open (device_at (rack_run rack_entry rack calls).rack i).tag ≡ false
    → is_closed (waits_for (device_at rack i) (own_of rack_entry rack calls i)) ≡ true

-- ---- a rack of waiting tags answers as the rack
unfoldable pub answers_waited : Waiting → List CallAnswer
answers_waited (no_transfer out d) = out
answers_waited (inside out d noted pending) = out

-- a tag whose list begins and ends with no transfer open is replaced by its waiting tag, any other stays
unfoldable pub stand_in : Device → List Call → List CallAnswer
stand_in d calls =
    pick (not (transfer_open d.tag) && is_closed (waits_for d calls)) (answers_waited (waits_for d calls)) (answers_alone d calls)

-- answers, reply bytes and report
abbrev pub AnswersAsWaiting : RackStep → Type 0
AnswersAsWaiting go = (rack : Rack) (calls : List RackCall) → WellFormed rack → rack_frames_fit calls ≡ true
    → (rack_run go rack calls).answers ≡ answers_made (judged_calls go rack calls) (of_each stand_in (judged_calls go rack calls) 0 (devices rack))
