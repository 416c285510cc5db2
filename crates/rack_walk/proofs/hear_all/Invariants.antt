use mathlib.Core.Path.{◌≡◌}
use Rattle.rack_hear.specs.Hear.{heard_all, hear_all_of}
use Rattle.rack_walk.proofs.hear_all.Given as goal

-- the tags before this one have heard it
abbrev pub invariant-loop-i : goal.invariant-loop-i
invariant-loop-i l = heard_all l.b l.tags l.memory l.out ≡ hear_all_of l.i l.initial.tags l.initial.memory l.initial.out l.frame l.initial.b
