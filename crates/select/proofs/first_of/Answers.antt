use Rattle.std.proofs.Common.{arith}
use Rattle.select.specs.Select.{first_of}
use Rattle.select.proofs.first_of.Goals as goal

pub returns : goal.returns
unfolding first_of
returns c = omega arith
