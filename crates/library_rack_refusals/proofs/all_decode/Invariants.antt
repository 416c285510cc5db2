use mathlib.Core.Path.{◌≡◌}
use mathlib.Core.Bool.{◌&&◌}
use Prim.Native.Nat.{◌*◌, ◌-◌}
use lib.ListN.{drop}
use Rattle.state.specs.Layout.{state_bytes}
use Rattle.rack_states.specs.States.{all_decode}
use Rattle.library_rack_refusals.proofs.all_decode.Given as goal

abbrev pub invariant-loop-i : goal.invariant-loop-i
invariant-loop-i l = (l.all && all_decode (l.n - l.i) (drop (l.i * state_bytes) l.s)) ≡ all_decode l.n l.s
