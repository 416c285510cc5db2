-- What a program in C or Rust calls for a rack: numbers and lent bytes, among them the states of its tags end to end.
use Rattle.std.specs.Prelude.{List, [], ◌∷◌, ℕ, ◌+◌, ◌^◌, Ok, Err, Some, None}
use Rattle.refusals.specs.declared.Refusal.{Refusal}
use Rattle.refusals.specs.Refusals.{number, judgement, unless_refused}
use Rattle.capi.specs.Interface.{answer_number, CallResult, call_result}
use Rattle.rack_states.specs.States.{states_of}
use Rattle.rack.specs.Rack.{RackCall}
use Rattle.rack.specs.Step.{RackResult, rack_entry}
use Rattle.rack_search.specs.Search.{SearchResult, search_entry, SearchAnswer}
use Rattle.library_rack_refusals.specs.Rules.{rack_at, rack_step_rules, rack_search_rules}

-- ---- the numbers; that of the rack's answer is an answer's
-- "the rack reports which tags answered": a bit for each, bit i for tag i
unfoldable pub mask_of : List ℕ → ℕ
mask_of [] = 0
mask_of (i ∷ report) = 2 ^ i + mask_of report

-- of a search's answer
unfoldable pub search_number : SearchAnswer → ℕ
search_number (Err refusal) = number refusal
search_number (Ok None) = 0x100
search_number (Ok (Some k)) = 0x400 + k

-- ---- one call
-- the number, which tags answered, and each lent buffer at the return
pub record RackCallResult : Type 0 where
  pub number : ℕ
  pub answered : ℕ
  pub states : List ℕ
  pub memory : List ℕ
  pub reply : List ℕ

abbrev pub rack_call_result : ℕ → ℕ → List ℕ → List ℕ → List ℕ → RackCallResult
rack_call_result n mask s m o = record { number = n; answered = mask; states = s; memory = m; reply = o }

-- of what the rack did
abbrev pub rack_called : RackResult → RackCallResult
rack_called result =
    rack_call_result (answer_number result.says.says.answer) (mask_of result.says.report) (states_of result.rack.tags) result.rack.memory result.says.says.buffer

-- the rack's step. After a refusal every lent byte is as before, and nobody answered.
unfoldable pub rack_step_call : ℕ → List ℕ → List ℕ → RackCall → RackCallResult
rack_step_call n s m call =
    unless_refused (judgement (rack_step_rules n s m call)) (λ (refusal : Refusal). rack_call_result (number refusal) 0 s m call.handed.buffer)
    (rack_called (rack_entry (rack_at n s m) call))

-- ---- the installer's search, with the reply buffer o and the frame f
abbrev pub search_called : SearchResult → CallResult
search_called result = call_result (search_number result.answer) (states_of result.rack.tags) result.rack.memory result.buffer

unfoldable pub rack_search_call : ℕ → List ℕ → List ℕ → List ℕ → List ℕ → CallResult
rack_search_call n s m o f =
    unless_refused (judgement (rack_search_rules n s m o)) (λ (refusal : Refusal). call_result (number refusal) s m o)
    (search_called (search_entry (rack_at n s m) o f))
