-- Demand 3 has each of its parts, so that it holds of no wrong tag.
use Rattle.std.specs.Prelude.{List, [], ◌∷◌}
use Rattle.calls.specs.Calls.{Step}
use Rattle.demand3.specs.Demand3.{EveryList, Demand3}
use Rattle.wrong_tags.specs.Told.{ClaimPart, part_of, WrongTag}
use Rattle.wrong_tags.specs.Pinned.{wrong_tags}

abbrev pub HasParts : Type 0
HasParts = (step : Step) → Demand3 step → (part : ClaimPart) → EveryList (part_of part step)

unfoldable pub AllRefuted : List WrongTag → Type 0
AllRefuted [] = Unit {0}
AllRefuted (w ∷ ws) = (Demand3 w.step → ⊥) × AllRefuted ws

abbrev pub WrongTagsRefuted : Type 0
WrongTagsRefuted = AllRefuted wrong_tags
