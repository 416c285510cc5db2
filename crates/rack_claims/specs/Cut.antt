-- A rack's list of calls cut to each tag's own, and the rack's answers made from the tags' answers.
use Rattle.std.specs.Prelude.{Bool, true, List, [], ◌∷◌, ℕ, suc, get_or, drop}
use Rattle.parts.specs.Pick.{pick}
use Rattle.refusals.specs.declared.Refusal.{Refusal}
use Rattle.refusals.specs.Call.{Call, handed_in}
use Rattle.refusals.specs.Refusals.{judgement, unless_refused, Judgement}
use Rattle.demand3.specs.Passed.{Nothing}
use Rattle.rack.specs.Passed.{CallAnswer, call_answer, Device}
use Rattle.rack.specs.Rack.{Rack, RackCall, goes_to}
use Rattle.rack.specs.Rules.{rack_rules}
use Rattle.rack.specs.Step.{RackAnswer, rack_refused, together, RackStep}

-- ---- a call, and what judging it finds where the rack then stands: the cut knows no more of the rack
pub record JudgedCall : Type 0 where
  pub judged : Judgement
  pub call : RackCall

abbrev pub judged_call : Judgement → RackCall → JudgedCall
judged_call judged call = record { judged = judged; call = call }

unfoldable pub judged_calls : RackStep → Rack → List RackCall → List JudgedCall
judged_calls go rack [] = []
judged_calls go rack (call ∷ calls) = judged_call (judgement (rack_rules rack call)) call ∷ judged_calls go (go rack call).rack calls

-- ---- the cut: "its frames, field changes and refused calls being all the rack's", and its wire signals
-- tag i has the call in its list
unfoldable pub has_call : JudgedCall → ℕ → Bool
has_call call i = unless_refused call.judged (λ (refusal : Refusal). true) (goes_to call.call i)

-- a call that the rack refuses stays as one that every tag refuses: it hands in no reply buffer
abbrev pub refused_call : Call → Call
refused_call call = handed_in [] call.code call.value call.frame

unfoldable pub own_call : JudgedCall → Call
own_call call = unless_refused call.judged (λ (refusal : Refusal). refused_call call.call.handed) call.call.handed

-- tag i's list
unfoldable pub own_calls : ℕ → List JudgedCall → List Call
own_calls i [] = []
own_calls i (call ∷ calls) = pick (has_call call i) (own_call call ∷ own_calls i calls) (own_calls i calls)

-- what `of` gives for each tag and its list; the first has number `from`
unfoldable pub of_each : {A : Type 0} → (Device → List Call → A) → List JudgedCall → ℕ → List Device → List A
of_each of calls from [] = []
of_each of calls from (d ∷ rest) = of d (own_calls from calls) ∷ of_each of calls (suc from) rest

-- ---- the rack's answers, from each tag's list of answers
-- a tag's answer to a call is the next of its list; a tag that has not the call says nothing
unfoldable pub next_answer : Bool → List ℕ → List CallAnswer → CallAnswer
next_answer has o answers = pick has (get_or answers 0 (call_answer Nothing o)) (call_answer Nothing o)

unfoldable pub later_answers : Bool → List CallAnswer → List CallAnswer
later_answers has answers = pick has (drop 1 answers) answers

-- of each tag, from number i on
unfoldable pub next_of_each : JudgedCall → ℕ → List (List CallAnswer) → List CallAnswer
next_of_each call i [] = []
next_of_each call i (answers ∷ rest) = next_answer (has_call call i) call.call.handed.buffer answers ∷ next_of_each call (suc i) rest

unfoldable pub later_of_each : JudgedCall → ℕ → List (List CallAnswer) → List (List CallAnswer)
later_of_each call i [] = []
later_of_each call i (answers ∷ rest) = later_answers (has_call call i) answers ∷ later_of_each call (suc i) rest

-- the rack's answer to a call: its own number where it refuses, else what the tags' answers make
unfoldable pub answer_made : JudgedCall → List CallAnswer → RackAnswer
answer_made call answers =
    unless_refused call.judged (λ (refusal : Refusal). rack_refused refusal call.call.handed) (together call.call answers)

unfoldable pub answers_made : List JudgedCall → List (List CallAnswer) → List RackAnswer
answers_made [] lists = []
answers_made (call ∷ calls) lists = answer_made call (next_of_each call 0 lists) ∷ answers_made calls (later_of_each call 0 lists)
