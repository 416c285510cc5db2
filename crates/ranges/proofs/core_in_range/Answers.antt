use Rattle.ranges.specs.Ranges.{core_in_range}
use Rattle.ranges.proofs.core_in_range.Goals as goal

pub returns : goal.returns
unfolding core_in_range
returns c = rw (c.mailbox_in_range.ensures, c.registers_in_range.ensures)
