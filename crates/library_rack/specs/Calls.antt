-- Lists of the library's rack calls, each of which gets the states' bytes and the memory that the last one left.
-- Beside these and the number of tags a call hands in what `RackCall` holds: a reply buffer of any length, a code, a value, a frame, and the number of a tag.
use Rattle.std.specs.Prelude.{List, [], ◌∷◌, ℕ}
use Rattle.library_demand3.specs.Passed.{CallResult}
use Rattle.rack.specs.Rack.{RackCall}
use Rattle.capi_rack.specs.RackInterface.{RackCallResult, rack_step_call, rack_search_call}

-- ---- the exported functions, as the contracts of their code have them; n is the number of tags, s their states, m the memory
abbrev pub LibraryRackStep : Type 0
LibraryRackStep = ℕ → List ℕ → List ℕ → RackCall → RackCallResult

unfoldable pub exported_rack : ℕ → List ℕ → List ℕ → RackCall → RackCallResult
exported_rack n s m call = rack_step_call n s m call

-- the search: the reply buffer o, the frame f
abbrev pub LibrarySearch : Type 0
LibrarySearch = ℕ → List ℕ → List ℕ → List ℕ → List ℕ → CallResult

unfoldable pub exported_search : ℕ → List ℕ → List ℕ → List ℕ → List ℕ → CallResult
exported_search n s m o f = rack_search_call n s m o f

-- ---- the answer to a call: its number, the bits of the tags that answered, and the whole reply buffer as the call leaves it
pub record LibraryRackAnswer : Type 0 where
  pub number : ℕ
  pub answered : ℕ
  pub buffer : List ℕ

abbrev pub library_rack_answer : ℕ → ℕ → List ℕ → LibraryRackAnswer
library_rack_answer n mask o = record { number = n; answered = mask; buffer = o }

abbrev pub rack_answer_by : RackCallResult → LibraryRackAnswer
rack_answer_by result = library_rack_answer result.number result.answered result.reply

-- ---- the answers to a list of calls, in their order, and the bytes that are left at its end
pub record LibraryRackRunResult : Type 0 where
  pub answers : List LibraryRackAnswer
  pub states : List ℕ
  pub memory : List ℕ

abbrev pub library_rack_run_result : List LibraryRackAnswer → List ℕ → List ℕ → LibraryRackRunResult
library_rack_run_result answers s m = record { answers = answers; states = s; memory = m }

unfoldable pub library_rack_run : LibraryRackStep → ℕ → List ℕ → List ℕ → List RackCall → LibraryRackRunResult
library_rack_run step n s m [] = library_rack_run_result [] s m
library_rack_run step n s m (call ∷ calls) =
    let result = step n s m call in
    let rest = library_rack_run step n result.states result.memory calls in
    library_rack_run_result (rack_answer_by result ∷ rest.answers) rest.states rest.memory
