use mathlib.Core.Path.{◌≡◌}
use lib.ListN.{length}
use lib.Seq.{sets}
use Rattle.text.specs.Decimal.{digits_of, decimal}
use Rattle.text.proofs.decimal.put_decimal.Given as goal

abbrev pub invariant-loop-i : goal.invariant-loop-i
invariant-loop-i l = (sets l.text l.at (digits_of l.i l.left) ≡ sets l.initial.text l.at (decimal l.n)) × (length (digits_of l.i l.left) ≡ l.i)
