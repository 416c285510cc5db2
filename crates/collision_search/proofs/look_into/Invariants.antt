use mathlib.Core.Path.{◌≡◌}
use Prim.Native.Nat.{◌-◌}
use Rattle.std.specs.Prelude.{Ok, None}
use Rattle.collision_search.proofs.Slots.{Counted, Looking}
use Rattle.collision_search.proofs.look_into.Given as goal

abbrev pub invariant-loop-i : goal.invariant-loop-i
invariant-loop-i l = (l.answer ≡ Ok None) × Counted l.answered l.seen l.i

abbrev pub decreases-loop-i : goal.decreases-loop-i
decreases-loop-i l = 16 - l.i

abbrev pub invariant-search : goal.invariant-search
invariant-search l =
    (l.answer ≡ Ok None) × Looking l.number l.slots l.frame l.initial.tags l.initial.memory l.initial.out l.slot l.tags l.memory l.out

abbrev pub decreases-search : goal.decreases-search
decreases-search l = l.slots - l.slot
