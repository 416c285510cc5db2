-- What is claimed of the library's rack calls: their lists are the rack's, and so all that is claimed of a rack holds of bytes and numbers.
use Rattle.std.specs.Prelude.{◌≡◌, Bool, true, false, List, [], ◌∷◌, ◌++◌, ◌↔◌, ℕ, ◌+◌, ◌*◌, ◌<◌, length, take, drop, Ok, Err}
use Rattle.parts.specs.Bytes.{are_bytes}
use Rattle.rule_list.specs.RuleList.{any_holds}
use Rattle.state.specs.Layout.{state_bytes, tag_of}
use Rattle.signal_table.specs.Table.{signal_by}
use Rattle.refusals.specs.declared.Refusal.{Refusal}
use Rattle.refusals.specs.Call.{Call}
use Rattle.refusals.specs.Refusals.{number, judgement}
use Rattle.model.specs.Step.{transfer_open}
use Rattle.library_demand3.specs.Passed.{answer_number}
use Rattle.calls.specs.Calls.{device}
use Rattle.waiting.specs.Waiting.{Waiting}
use Rattle.demand3.specs.Demand3.{is_radio, is_closed}
use Rattle.library_demand3.specs.Calls.{exported, library_run_result, library_run}
use Rattle.library_demand3.specs.Claim.{in_bytes, LibraryAgrees, Starts}
use Rattle.rack.specs.Rack.{RackCall, rack_call, memory_sizes, device_at, devices, to_all}
use Rattle.rack.specs.Rules.{WellFormed}
use Rattle.rack.specs.Claims.{is_among}
use Rattle.rack.specs.Step.{RackAnswer, rack_entry, RackRunResult, rack_run}
use Rattle.wrong_racks.specs.Passed.{JudgedCall, judged_calls, of_each, answers_made, rack_frames_fit, answers_alone, own_of, waits_for, stand_in, search_rules, search_entry, FirstCollision, NoCollisions, sent_by}
use Rattle.rack_states.specs.States.{states_of, tags_at, all_decode}
use Rattle.library_rack_refusals.specs.Rules.{rack_at}
use Rattle.capi_rack.specs.RackInterface.{mask_of, rack_call_result}
use Rattle.library_rack.specs.Calls.{LibraryRackStep, exported_rack, LibrarySearch, LibraryRackAnswer, library_rack_answer, LibraryRackRunResult, library_rack_run_result, library_rack_run}

-- ---- a rack's run in numbers and bytes
abbrev pub in_rack_number : RackAnswer → LibraryRackAnswer
in_rack_number answer = library_rack_answer (answer_number answer.says.answer) (mask_of answer.report) answer.says.buffer

unfoldable pub in_rack_numbers : List RackAnswer → List LibraryRackAnswer
in_rack_numbers [] = []
in_rack_numbers (answer ∷ answers) = in_rack_number answer ∷ in_rack_numbers answers

abbrev pub in_rack_bytes : RackRunResult → LibraryRackRunResult
in_rack_bytes result = library_rack_run_result (in_rack_numbers result.answers) (states_of result.rack.tags) result.rack.memory

-- ---- the lists
-- bytes that decode to n tags, and bytes of memory
pub record RackStarts (n : ℕ) (s m : List ℕ) : Type 0 where
  pub states : are_bytes s ≡ true
  pub long : length s ≡ n * state_bytes
  pub whole : all_decode n s ≡ true
  pub memory : are_bytes m ≡ true

-- from there every list of calls, their frames of bytes; the rack may be malformed: there each call is refused
abbrev pub EveryRackCalls : (ℕ → List ℕ → List ℕ → List RackCall → Type 0) → Type 0
EveryRackCalls P = (n : ℕ) (s m : List ℕ) (calls : List RackCall) → RackStarts n s m → rack_frames_fit calls ≡ true → P n s m calls

-- each answer is the rack's, by its number, its report's bits and its reply buffer; the bytes left at the end are those of the rack's tags, and its memory
abbrev pub LibraryRunsRack : LibraryRackStep → Type 0
LibraryRunsRack step = EveryRackCalls (λ (n : ℕ) (s m : List ℕ) (calls : List RackCall).
    library_rack_run step n s m calls ≡ in_rack_bytes (rack_run rack_entry (rack_at n s m) calls))

-- ---- from call to call
-- the refusals that look at the number of tags, their states or their memories
abbrev pub state_refusals : List ℕ
state_refusals = 1 ∷ 4 ∷ 5 ∷ 7 ∷ 13 ∷ []

unfoldable pub looks_at_states : LibraryRackAnswer → Bool
looks_at_states answer = is_among answer.number state_refusals

-- what a list leaves can be handed to the next one; if it starts well-formed it stays so, and no such refusal comes up
pub record LibraryRackKeeps (step : LibraryRackStep) (n : ℕ) (s m : List ℕ) (calls : List RackCall) : Type 0 where
  pub starts : let left = library_rack_run step n s m calls in RackStarts n left.states left.memory
  pub formed : WellFormed (rack_at n s m) → let left = library_rack_run step n s m calls in WellFormed (rack_at n left.states left.memory)
  pub numbers : WellFormed (rack_at n s m) → any_holds looks_at_states (library_rack_run step n s m calls).answers ≡ false
  pub size : length (library_rack_run step n s m calls).memory ≡ length m

abbrev pub LibraryKeepsRacks : LibraryRackStep → Type 0
LibraryKeepsRacks step = EveryRackCalls (LibraryRackKeeps step)

-- with another number of tags than the memory has a call is refused by 1, and every byte stays
abbrev pub OtherNumberRefused : LibraryRackStep → Type 0
OtherNumberRefused step = (n other : ℕ) (s m : List ℕ) (call : RackCall) → length m ≡ memory_sizes (tags_at n s) → (other ≡ n → ⊥)
    → step other s m call ≡ rack_call_result 1 0 s m call.handed.buffer

-- with a signal that goes to all the tag's number is "unread", whatever the bytes
abbrev pub LibraryNumberUnread : LibraryRackStep → Type 0
LibraryNumberUnread step = (n : ℕ) (s m : List ℕ) (call : Call) (i j : ℕ) → to_all call.code ≡ true → step n s m (rack_call call i) ≡ step n s m (rack_call call j)

-- of a signal that is no frame and no end-of-frame nobody is reported
abbrev pub LibraryOnlyRadioReported : LibraryRackStep → Type 0
LibraryOnlyRadioReported step = (n : ℕ) (s m : List ℕ) (call : RackCall) → RackStarts n s m
    → is_radio (signal_by call.handed.code call.handed.value) ≡ false → (step n s m call).answered ≡ 0

-- a rack of no tags, and with one tag more before the others: its bytes as a call of one tag left them, those of a fresh tag too
pub record StartsGrow : Type 0 where
  pub none : RackStarts 0 [] []
  pub more : (n : ℕ) (s m states memory : List ℕ) → Starts s m → RackStarts n states memory → RackStarts (1 + n) (s ++ states) (m ++ memory)

-- ---- one tag: its state's bytes, its bytes of the memory, and its own calls
abbrev pub state_at : List ℕ → ℕ → List ℕ
state_at s i = take state_bytes (drop (i * state_bytes) s)

abbrev pub memory_at : ℕ → List ℕ → List ℕ → ℕ → List ℕ
memory_at n s m i = (device_at (rack_at n s m) i).memory

abbrev pub judged_of : ℕ → List ℕ → List ℕ → List RackCall → List JudgedCall
judged_of n s m calls = judged_calls rack_entry (rack_at n s m) calls

abbrev pub calls_to : ℕ → List ℕ → List ℕ → List RackCall → ℕ → List Call
calls_to n s m calls i = own_of rack_entry (rack_at n s m) calls i

-- ---- the rack is its tags
pub record LibraryItsTags (step : LibraryRackStep) (n : ℕ) (s m : List ℕ) (calls : List RackCall) : Type 0 where
  -- tag i's bytes are those that the library's calls of one tag leave of them, which are handed tag i's own calls
  pub states : (i : ℕ) → i < n
      → state_at (library_rack_run step n s m calls).states i ≡ (library_run exported (state_at s i) (memory_at n s m i) (calls_to n s m calls i)).state
  pub memories : (i : ℕ) → i < n
      → let left = library_rack_run step n s m calls in
      memory_at n left.states left.memory i ≡ (library_run exported (state_at s i) (memory_at n s m i) (calls_to n s m calls i)).memory
  -- numbers, bits and reply bytes are what the answers of the tags alone make
  pub answers : (library_rack_run step n s m calls).answers
      ≡ in_rack_numbers (answers_made (judged_of n s m calls) (of_each answers_alone (judged_of n s m calls) 0 (devices (rack_at n s m))))

abbrev pub LibraryIsItsTags : LibraryRackStep → Type 0
LibraryIsItsTags step = EveryRackCalls (LibraryItsTags step)

-- ---- "Demand 3 holds for each tag taken alone"
abbrev pub waits_at : ℕ → List ℕ → List ℕ → List RackCall → ℕ → Waiting
waits_at n s m calls i = waits_for (device (tag_of (state_at s i)) (memory_at n s m i)) (calls_to n s m calls i)

pub record LibraryTagAgrees (step : LibraryRackStep) (n : ℕ) (s m : List ℕ) (calls : List RackCall) (i : ℕ) : Type 0 where
  -- over the library's calls of one tag, whole, of its bytes and its own calls
  pub alone : LibraryAgrees exported (state_at s i) (memory_at n s m i) (calls_to n s m calls i)
  -- the waiting tag gives the numbers and replies of the tag alone, and ends with the bytes of tag i in the rack
  pub ends : let left = library_rack_run step n s m calls in
      in_bytes (waits_at n s m calls i)
      ≡ library_run_result (library_run exported (state_at s i) (memory_at n s m i) (calls_to n s m calls i)).answers (state_at left.states i) (memory_at n left.states left.memory i)

-- asked of tag i alone: that it is a start, with no transfer open, and that its list finishes with none open, as its waiting tag says
abbrev pub LibraryRackDemand3 : LibraryRackStep → Type 0
LibraryRackDemand3 step = EveryRackCalls (λ (n : ℕ) (s m : List ℕ) (calls : List RackCall).
    (i : ℕ) → i < n → Starts (state_at s i) (memory_at n s m i) → is_closed (waits_at n s m calls i) ≡ true → LibraryTagAgrees step n s m calls i)

-- for the exported function that is what tag i's own bytes show
abbrev pub LibraryRackEndsAlike : Type 0
LibraryRackEndsAlike = EveryRackCalls (λ (n : ℕ) (s m : List ℕ) (calls : List RackCall).
    (i : ℕ) → i < n → Starts (state_at s i) (memory_at n s m i)
    → transfer_open (tag_of (state_at (library_rack_run exported_rack n s m calls).states i)) ≡ false → is_closed (waits_at n s m calls i) ≡ true)

-- a rack of waiting tags has the same numbers, bits and reply bytes
abbrev pub LibraryAnswersAsWaiting : LibraryRackStep → Type 0
LibraryAnswersAsWaiting step = EveryRackCalls (λ (n : ℕ) (s m : List ℕ) (calls : List RackCall). WellFormed (rack_at n s m)
    → (library_rack_run step n s m calls).answers ≡ in_rack_numbers (answers_made (judged_of n s m calls) (of_each stand_in (judged_of n s m calls) 0 (devices (rack_at n s m)))))

-- ---- the search, over the library's rack step
-- the buffer as the last call left it, else o
unfoldable pub reply_after : List ℕ → List LibraryRackAnswer → List ℕ
reply_after o [] = o
reply_after o (answer ∷ answers) = reply_after answer.buffer answers

-- the calls that it sends, one by one
abbrev pub calls_sent : ℕ → List ℕ → List ℕ → List ℕ → List ℕ → List RackCall
calls_sent n s m o f = sent_by rack_entry search_entry (rack_at n s m) o f

pub record LibrarySearched (step : LibraryRackStep) (find : LibrarySearch) (n : ℕ) (s m o f : List ℕ) : Type 0 where
  -- a refusal's number, below 0x100
  pub refused : (refusal : Refusal) → ((find n s m o f).number ≡ number refusal) ↔ (judgement (search_rules (rack_at n s m) o) ≡ Err refusal)
  -- where there is none: 0x400 and the first slot in which two tags answer, or 0x100
  pub collision : judgement (search_rules (rack_at n s m) o) ≡ Ok tt → (k : ℕ) → ((find n s m o f).number ≡ 0x400 + k) ↔ FirstCollision f (rack_at n s m) k
  pub none : judgement (search_rules (rack_at n s m) o) ≡ Ok tt → ((find n s m o f).number ≡ 0x100) ↔ NoCollisions f (rack_at n s m)
  -- the bytes are as the rack calls leave them that it sent, one by one
  pub states : (find n s m o f).state ≡ (library_rack_run step n s m (calls_sent n s m o f)).states
  pub memory : (find n s m o f).memory ≡ (library_rack_run step n s m (calls_sent n s m o f)).memory
  pub reply : (find n s m o f).reply ≡ reply_after o (library_rack_run step n s m (calls_sent n s m o f)).answers

abbrev pub LibrarySearches : LibraryRackStep → LibrarySearch → Type 0
LibrarySearches step find = (n : ℕ) (s m o f : List ℕ) → RackStarts n s m → are_bytes f ≡ true → LibrarySearched step find n s m o f
