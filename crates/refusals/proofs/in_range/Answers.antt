use Rattle.refusals.specs.Refusals.{tag_in_range}
use Rattle.refusals.proofs.in_range.Goals as goal

pub returns : goal.returns
unfolding tag_in_range
returns c = rw (c.bus_in_range.ensures, c.in_range.ensures)
