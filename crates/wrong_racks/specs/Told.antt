-- What a wrong rack is refuted by.
use Rattle.std.specs.Prelude.{List, [], ◌∷◌}
use Rattle.rack.specs.Rack.{Rack, RackCall}
use Rattle.rack.specs.Step.{RackStep}
use Rattle.rack_search.specs.Passed.{TagsAsAlone, SameNumber, SameSize, AnswersOfTags, EveryRackList}

-- the parts of "the rack is its tags"
pub data RackPart : Type 0 where
  by_tags : RackPart
  by_number : RackPart
  by_size : RackPart
  by_answers : RackPart

unfoldable pub rack_part_of : RackPart → RackStep → Rack → List RackCall → Type 0
rack_part_of by_tags go rack calls = TagsAsAlone go rack calls
rack_part_of by_number go rack calls = SameNumber go rack calls
rack_part_of by_size go rack calls = SameSize go rack calls
rack_part_of by_answers go rack calls = AnswersOfTags go rack calls

-- a rack, and the part that tells it: for some list of calls this part does not hold of it
pub record WrongRack : Type 0 where
  pub step : RackStep
  pub part : RackPart

abbrev pub rack_told_by : RackPart → RackStep → WrongRack
rack_told_by part go = record { step = go; part = part }

abbrev pub RackTold : RackPart → RackStep → Type 0
RackTold part go = EveryRackList (rack_part_of part go) → ⊥

unfoldable pub AllRacksTold : List WrongRack → Type 0
AllRacksTold [] = Unit {0}
AllRacksTold (wrong ∷ rest) = RackTold wrong.part wrong.step × AllRacksTold rest
