use Rattle.ranges.specs.Ranges.{air_in_range}
use Rattle.ranges.proofs.air_in_range.Goals as goal

pub returns : goal.returns
unfolding air_in_range
returns c = rw c.is_quiet.ensures
