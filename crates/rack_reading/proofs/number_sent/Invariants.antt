use mathlib.Core.Path.{◌≡◌}
use Prim.Native.Nat.{◌≤◌}
use lib.ListN.{length, drop}
use Rattle.rack_reading.specs.Line.{all_digits, number_from, number_of, most_number}
use Rattle.rack_reading.proofs.number_sent.Given as goal

abbrev pub invariant-loop-x : goal.invariant-loop-x
invariant-loop-x l = (all_digits (drop l.x-index l.s) ≡ all_digits l.s) × ((number_from l.n (drop l.x-index l.s) ≡ number_of l.s) × ((l.n ≤ most_number) × (l.x-index ≤ length l.s)))
