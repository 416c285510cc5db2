use mathlib.Core.Path.{◌≡◌}
use Rattle.rack_judge.specs.Judge.{uid_among}
use Rattle.rack_judge.proofs.uid_among.Given as goal

abbrev pub invariant-loop-i : goal.invariant-loop-i
invariant-loop-i l = l.found ≡ uid_among l.uids l.i l.u
