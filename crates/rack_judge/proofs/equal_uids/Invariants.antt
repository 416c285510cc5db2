use mathlib.Core.Path.{◌≡◌}
use lib.ListN.{take}
use Rattle.rack.specs.Rules.{equal_uids}
use Rattle.rack_judge.proofs.Uids.{gathered}
use Rattle.rack_judge.proofs.equal_uids.Given as goal

abbrev pub invariant-loop-i : goal.invariant-loop-i
invariant-loop-i l = (l.uids ≡ gathered l.tags l.i) × (l.found ≡ equal_uids (take l.i l.tags))
