use Rattle.ranges.specs.Ranges.{wire_in_range}
use Rattle.ranges.proofs.wire_in_range.Goals as goal

pub returns : goal.returns
unfolding wire_in_range
returns c = rw (c.supplied_in_range.ensures, c.host_in_range.ensures, c.core_in_range.ensures)
