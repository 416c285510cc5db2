use mathlib.Core.Path.{◌≡◌}
use mathlib.Core.Bool.{◌&&◌}
use Prim.Native.Nat.{◌*◌, ◌-◌}
use lib.ListN.{drop}
use Rattle.tag.specs.Layout.{memory_bytes}
use Rattle.state.specs.Layout.{state_bytes}
use Rattle.rack.specs.Rack.{devices_of}
use Rattle.rack.specs.Rules.{all_in_range}
use Rattle.rack_states.specs.States.{tags_at}
use Rattle.library_rack_refusals.proofs.all_in_range.Given as goal

abbrev pub invariant-loop-i : goal.invariant-loop-i
invariant-loop-i l =
    (l.all && all_in_range (devices_of (tags_at (l.n - l.i) (drop (l.i * state_bytes) l.s)) (drop (l.i * memory_bytes) l.m))) ≡ all_in_range (devices_of (tags_at l.n l.s) l.m)
