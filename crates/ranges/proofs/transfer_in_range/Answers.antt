use Rattle.ranges.specs.Ranges.{transfer_in_range}
use Rattle.ranges.proofs.transfer_in_range.Goals as goal

pub returns-in-None : goal.returns-in-None
unfolding transfer_in_range
returns-in-None c = rw c.in-None.is

pub returns-in-Some : goal.returns-in-Some
unfolding transfer_in_range
returns-in-Some c = rw (c.keep.ensures, c.in-Some.is)
