use mathlib.Core.Path.{◌≡◌}
use mathlib.Core.Bool.{◌&&◌}
use lib.ListN.{drop}
use Rattle.hexadecimal.specs.Hex.{all_hex}
use Rattle.hexadecimal.proofs.all_hex.Given as goal

abbrev pub invariant-loop-x : goal.invariant-loop-x
invariant-loop-x l = (l.all && all_hex (drop l.x-index l.s)) ≡ all_hex l.s
