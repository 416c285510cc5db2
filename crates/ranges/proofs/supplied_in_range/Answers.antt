use Rattle.ranges.specs.Ranges.{supplied_in_range}
use Rattle.ranges.proofs.supplied_in_range.Goals as goal

pub returns : goal.returns
unfolding supplied_in_range
returns c = rw c.is_active.ensures
