-- What is proved of the library's rack calls, beside their contracts.
use Rattle.std.specs.Prelude.{◌≡◌, List, ℕ, ◌<◌, length, get_or}
use Rattle.tag.specs.declared.Tag.{Tag}
use Rattle.state.specs.Claims.{Fits}
use Rattle.capi.specs.Interface.{call_result}
use Rattle.rack_states.specs.States.{states_of}
use Rattle.rack.specs.Rack.{RackCall, rack_of, no_tag}
use Rattle.rack.specs.Step.{rack_entry}
use Rattle.rack_search.specs.Search.{search_entry}
use Rattle.capi_rack.specs.RackInterface.{rack_call_result, rack_called, rack_step_call, search_called, rack_search_call}

-- a number below 0x100 is a refusal: every byte of every lent buffer is as before, and nobody answered
abbrev pub RefusedRackStepKeeps : Type 0
RefusedRackStepKeeps = (n : ℕ) (s m : List ℕ) (call : RackCall) → let result = rack_step_call n s m call in
    result.number < 0x100 → result ≡ rack_call_result result.number 0 s m call.handed.buffer

abbrev pub RefusedSearchKeeps : Type 0
RefusedSearchKeeps = (n : ℕ) (s m o f : List ℕ) → let result = rack_search_call n s m o f in
    result.number < 0x100 → result ≡ call_result result.number s m o

-- each number of each tag fits its type
abbrev pub AllTagsFit : List Tag → Type 0
AllTagsFit tags = (i : ℕ) → i < length tags → Fits (get_or tags i no_tag)

-- a call over the states of tags is the rack's call of those tags
abbrev pub StepsTheRack : Type 0
StepsTheRack = (tags : List Tag) (m : List ℕ) (call : RackCall) → AllTagsFit tags
    → rack_step_call (length tags) (states_of tags) m call ≡ rack_called (rack_entry (rack_of tags m) call)

abbrev pub SearchesTheRack : Type 0
SearchesTheRack = (tags : List Tag) (m o f : List ℕ) → AllTagsFit tags
    → rack_search_call (length tags) (states_of tags) m o f ≡ search_called (search_entry (rack_of tags m) o f)
