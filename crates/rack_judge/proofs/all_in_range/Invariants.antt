use mathlib.Core.Path.{◌≡◌}
use lib.ListN.{take}
use Rattle.rack.specs.Rack.{devices_of}
use Rattle.rack.specs.Rules.{all_in_range}
use Rattle.rack_judge.proofs.all_in_range.Given as goal

abbrev pub invariant-loop-i : goal.invariant-loop-i
invariant-loop-i l = l.all ≡ all_in_range (devices_of (take l.i l.tags) l.memory)
