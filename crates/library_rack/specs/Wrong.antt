-- Library racks that are right but for one thing each: the exported functions with that changed.
use Rattle.std.specs.Prelude.{List, ◌++◌, ℕ, ◌+◌, ◌*◌, ◌%◌, leb, eqb, take, drop}
use Rattle.parts.specs.Pick.{pick}
use Rattle.state.specs.Layout.{state_bytes}
use Rattle.library_demand3.specs.Passed.{CallResult, call_result}
use Rattle.rack.specs.Rack.{RackCall}
use Rattle.capi_rack.specs.RackInterface.{RackCallResult, rack_call_result}
use Rattle.library_rack.specs.Calls.{LibraryRackStep, exported_rack, LibrarySearch, exported_search}
use Rattle.library_rack.specs.Claims.{LibraryRunsRack, LibrarySearches}

abbrev pub LibraryRackRefuted : LibraryRackStep → Type 0
LibraryRackRefuted step = LibraryRunsRack step → ⊥

abbrev pub LibrarySearchRefuted : LibrarySearch → Type 0
LibrarySearchRefuted find = LibrarySearches exported_rack find → ⊥

-- ---- the states
-- it stores none
unfoldable pub stores_none : ℕ → List ℕ → List ℕ → RackCall → RackCallResult
stores_none n s m call =
    let result = exported_rack n s m call in
    rack_call_result result.number result.answered s result.memory result.reply

-- it stores the first tag's alone
unfoldable pub stores_first : ℕ → List ℕ → List ℕ → RackCall → RackCallResult
stores_first n s m call =
    let result = exported_rack n s m call in
    rack_call_result result.number result.answered (take state_bytes result.states ++ drop state_bytes s) result.memory result.reply

-- the first tag's comes last
unfoldable pub turns_states : ℕ → List ℕ → List ℕ → RackCall → RackCallResult
turns_states n s m call =
    let result = exported_rack n s m call in
    rack_call_result result.number result.answered (drop state_bytes result.states ++ take state_bytes result.states) result.memory result.reply

-- ---- the bits
-- bit 1 is the first tag's
unfoldable pub bits_from_one : ℕ → List ℕ → List ℕ → RackCall → RackCallResult
bits_from_one n s m call =
    let result = exported_rack n s m call in
    rack_call_result result.number (2 * result.answered) result.states result.memory result.reply

-- the first tag alone has one
unfoldable pub first_bit_only : ℕ → List ℕ → List ℕ → RackCall → RackCallResult
first_bit_only n s m call =
    let result = exported_rack n s m call in
    rack_call_result result.number (result.answered % 2) result.states result.memory result.reply

-- ---- the numbers: refusal 6 comes as 3
unfoldable pub refuses_tag_by3 : ℕ → List ℕ → List ℕ → RackCall → RackCallResult
refuses_tag_by3 n s m call =
    let result = exported_rack n s m call in
    rack_call_result (pick (eqb result.number 6) 3 result.number) result.answered result.states result.memory result.reply

-- ---- searches
-- slots are numbered from 1
unfoldable pub slots_from_one : ℕ → List ℕ → List ℕ → List ℕ → List ℕ → CallResult
slots_from_one n s m o f =
    let result = exported_search n s m o f in
    call_result (pick (leb 0x400 result.number) (result.number + 1) result.number) result.state result.memory result.reply

-- nothing that it sends acts on the tags
unfoldable pub acts_on_none : ℕ → List ℕ → List ℕ → List ℕ → List ℕ → CallResult
acts_on_none n s m o f = let result = exported_search n s m o f in call_result result.number s m result.reply
