use Rattle.parts.proofs.Picks.{picks}
use Rattle.air.specs.Radio.{deselected}
use Rattle.air.proofs.Air.deselect.Goals as goal

pub returns-then-is_selected : goal.returns-then-is_selected
unfolding deselected
returns-then-is_selected c = rw (c.reset.ensures, ← c.is_selected.ensures) (search picks depth 20)

pub returns : goal.returns
unfolding deselected
returns c = rw (← c.is_selected.ensures) (search picks depth 20)
