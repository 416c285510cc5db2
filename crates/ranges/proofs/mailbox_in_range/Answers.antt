use mathlib.Core.Path.{refl}
use Rattle.ranges.specs.Ranges.{mailbox_in_range}
use Rattle.ranges.proofs.mailbox_in_range.Goals as goal

pub returns : goal.returns
unfolding mailbox_in_range
returns c = refl
