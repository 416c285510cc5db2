-- What follows from the first part of the claim, for every step.
use Rattle.std.specs.Prelude.{◌≡◌, List}
use Rattle.tag.specs.declared.Tag.{Tag}
use Rattle.signal_table.specs.Table.{signal_by}
use Rattle.refusals.specs.Call.{Call}
use Rattle.calls.specs.Calls.{Device, Step, call_reply}
use Rattle.demand3.specs.Demand3.{shut_reply, RepliesShut, EachStruck, Same, Judged, Striking, EveryList}

-- a tag that answers every list as the waiting tag does never gives refusal 1 or 4
abbrev pub JudgedFollows : Type 0
JudgedFollows = (step : Step) → EveryList (Same step) → EveryList (Judged step)

-- and its frames may be struck out
abbrev pub StrikingFollows : Type 0
StrikingFollows = (step : Step) → EveryList (Same step) → EveryList (Striking step)

-- ---- of a struck frame its answer; the reply's bytes follow from it
abbrev pub AnswersShut : Step → Tag → Device → Call → Type 0
AnswersShut step start d call = (step d call).says.answer ≡ (call_reply (shut_reply (signal_by call.code call.value) start d.tag.air call.frame) call.buffer).answer

abbrev pub BytesFollow : Type 0
BytesFollow = (step : Step) → EveryList (Same step)
    → EveryList (λ (d : Device) (calls : List Call). EachStruck step (AnswersShut step) d.tag d calls → EachStruck step (RepliesShut step) d.tag d calls)
