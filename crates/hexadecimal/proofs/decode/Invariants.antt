use mathlib.Core.Path.{◌≡◌}
use Prim.Native.Nat.{◌*◌}
use lib.ListN.{drop}
use lib.Seq.{sets}
use Rattle.hexadecimal.specs.Hex.{hex_bytes}
use Rattle.hexadecimal.proofs.decode.Given as goal

abbrev pub invariant-loop-i : goal.invariant-loop-i
invariant-loop-i l = sets l.out l.i (hex_bytes (drop (2 * l.i) l.s)) ≡ sets l.initial.out 0 (hex_bytes l.s)
