-- What a wrong tag is refuted by.
use Rattle.std.specs.Prelude.{List, [], ◌∷◌}
use Rattle.refusals.specs.Call.{Call}
use Rattle.calls.specs.Calls.{Device, Step}
use Rattle.demand3.specs.Demand3.{Unchanged, RepliesShut, EachStruck, Same, Judged, Striking, EveryList}

-- the parts of demand 3, a struck frame's two apart
pub data ClaimPart : Type 0 where
  by_same : ClaimPart
  by_judged : ClaimPart
  by_striking : ClaimPart
  by_unchanged : ClaimPart
  by_reply : ClaimPart

unfoldable pub part_of : ClaimPart → Step → Device → List Call → Type 0
part_of by_same step d calls = Same step d calls
part_of by_judged step d calls = Judged step d calls
part_of by_striking step d calls = Striking step d calls
part_of by_unchanged step d calls = EachStruck step (Unchanged step) d.tag d calls
part_of by_reply step d calls = EachStruck step (RepliesShut step) d.tag d calls

-- a tag, and the part that tells it: for some list of calls this part does not hold of it
pub record WrongTag : Type 0 where
  pub step : Step
  pub part : ClaimPart

abbrev pub told_by : ClaimPart → Step → WrongTag
told_by part step = record { step = step; part = part }

abbrev pub Told : ClaimPart → Step → Type 0
Told part step = EveryList (part_of part step) → ⊥

unfoldable pub AllTold : List WrongTag → Type 0
AllTold [] = Unit {0}
AllTold (w ∷ ws) = Told w.part w.step × AllTold ws
