use Rattle.ranges.specs.Ranges.{registers_in_range}
use Rattle.ranges.proofs.registers_in_range.Goals as goal

pub returns : goal.returns
unfolding registers_in_range
returns c = rw (c.is_defined.ensures, c.ends_in_range.ensures)
