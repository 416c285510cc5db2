use mathlib.Core.Path.{◌≡◌}
use Rattle.inventory.specs.Inventory.{same_bits}
use Rattle.inventory.proofs.same_bits.Given as goal

abbrev pub invariant-loop-i : goal.invariant-loop-i
invariant-loop-i l = l.same ≡ same_bits l.f l.at l.uid l.i
