use Rattle.ranges.specs.Ranges.{in_range}
use Rattle.ranges.proofs.in_range.Goals as goal

pub returns : goal.returns
unfolding in_range
returns c = rw (c.wire_in_range.ensures, c.air_in_range.ensures)
