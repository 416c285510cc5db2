-- The rack is its tags.
use Rattle.std.specs.Prelude.{◌≡◌, Bool, true, false, ◌&&◌, List, [], ◌∷◌, ℕ, ◌<◌, length}
use Rattle.parts.specs.Bytes.{are_bytes}
use Rattle.rule_list.specs.RuleList.{any_holds}
use Rattle.refusals.specs.Refusals.{unless_refused}
use Rattle.refusals.specs.Call.{Call}
use Rattle.signal_table.specs.Table.{signal_by}
use Rattle.rack.specs.Passed.{CallAnswer, Device, entry, run_by}
use Rattle.demand3.specs.Demand3.{is_radio}
use Rattle.rack.specs.Rack.{Rack, RackCall, device_at, devices}
use Rattle.rack.specs.Rules.{WellFormed, looks_at_rack}
use Rattle.rack.specs.Step.{RackStep, rack_run}
use Rattle.rack_claims.specs.Cut.{JudgedCall, judged_calls, own_calls, of_each, answers_made}

-- each number fits its type: a frame's bytes are bytes; no other number needs it
unfoldable pub rack_frames_fit : List RackCall → Bool
rack_frames_fit [] = true
rack_frames_fit (call ∷ calls) = are_bytes call.handed.frame && rack_frames_fit calls

-- a tag alone: its answers to its list
abbrev pub answers_alone : Device → List Call → List CallAnswer
answers_alone d calls = (run_by entry d calls).answers

-- ---- of a rack's step `go`: from a rack, a list of calls
-- tag i and its memory are those of tag i alone after its own calls
abbrev pub TagsAsAlone : RackStep → Rack → List RackCall → Type 0
TagsAsAlone go rack calls = (i : ℕ) → i < length rack.tags
    → device_at (rack_run go rack calls).rack i ≡ (run_by entry (device_at rack i) (own_calls i (judged_calls go rack calls))).device

-- no tag and no byte more or less
abbrev pub SameNumber : RackStep → Rack → List RackCall → Type 0
SameNumber go rack calls = length (rack_run go rack calls).rack.tags ≡ length rack.tags

abbrev pub SameSize : RackStep → Rack → List RackCall → Type 0
SameSize go rack calls = length (rack_run go rack calls).rack.memory ≡ length rack.memory

-- answers, reply bytes and report are what the answers of the tags alone make
abbrev pub AnswersOfTags : RackStep → Rack → List RackCall → Type 0
AnswersOfTags go rack calls =
    (rack_run go rack calls).answers ≡ answers_made (judged_calls go rack calls) (of_each answers_alone (judged_calls go rack calls) 0 (devices rack))

pub record ItsTags (go : RackStep) (rack : Rack) (calls : List RackCall) : Type 0 where
  pub tags : TagsAsAlone go rack calls
  pub number : SameNumber go rack calls
  pub size : SameSize go rack calls
  pub answers : AnswersOfTags go rack calls

-- for every rack, a malformed one too: there each call is refused
abbrev pub EveryRackList : (Rack → List RackCall → Type 0) → Type 0
EveryRackList P = (rack : Rack) (calls : List RackCall) → rack_frames_fit calls ≡ true → P rack calls

abbrev pub IsItsTags : RackStep → Type 0
IsItsTags go = EveryRackList (ItsTags go)

-- ---- a list that starts well-formed stays so, and refusals 1, 4, 5 and 7 never come up
abbrev pub refused_by_rack : JudgedCall → Bool
refused_by_rack call = unless_refused call.judged looks_at_rack false

pub record StaysWellFormed (go : RackStep) (rack : Rack) (calls : List RackCall) : Type 0 where
  pub formed : WellFormed (rack_run go rack calls).rack
  pub judged : any_holds refused_by_rack (judged_calls go rack calls) ≡ false

abbrev pub KeepsWellFormed : RackStep → Type 0
KeepsWellFormed go = (rack : Rack) (calls : List RackCall) → WellFormed rack → rack_frames_fit calls ≡ true → StaysWellFormed go rack calls

-- ---- the report: of a signal that is no frame and no end-of-frame nobody
abbrev pub OnlyRadioReported : RackStep → Type 0
OnlyRadioReported go = (rack : Rack) (call : RackCall) → is_radio (signal_by call.handed.code call.handed.value) ≡ false
    → (go rack call).says.report ≡ []
