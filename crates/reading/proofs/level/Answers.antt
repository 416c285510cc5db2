use mathlib.Core.Path.{◌≡◌}
use mathlib.Core.Bool.{Bool, true, ◌&&◌, ◌||◌}
use mathlib.Core.Logic.{⊎_elim}
use Prim.Native.Nat.{ℕ, ◌≤◌, ◌-◌}
use native.Mathlib.Omega.{arith}
use lib.Dec.{eqb}
use lib.ListN.{length}
use borrow.Author.Tests.{eqb-true}
use Rattle.parts.proofs.Bools.{and_right, or_cases}
use Rattle.parts.proofs.Picks.{picks}
use Rattle.reading.specs.Line.{line_by, level}
use Rattle.reading.proofs.level.Goals as goal

-- 0 and 1 are characters from 48 on
from-48 : (b : Bool) (x : ℕ) → (b && (eqb x 48 || eqb x 49)) ≡ true → 48 ≤ x
from-48 b x h = ⊎_elim (λ e. omega (arith, eqb-true x 48 e)) (λ e. omega (arith, eqb-true x 49 e)) (or_cases (eqb x 48) (eqb x 49) (and_right b (eqb x 48 || eqb x 49) h))

pub overflow_sub-x : goal.overflow_sub-x
overflow_sub-x c = from-48 (eqb (length c.args.s.now) 1) c.byte_at-x.result c.if-s-x.true

pub returns-then-s-x : goal.returns-then-s-x
unfolding line_by level
returns-then-s-x c = rw (← c.byte_at-x.ensures) (search picks depth 20)

pub returns : goal.returns
unfolding line_by level
returns c = rw (← c.byte_at-x.ensures) (search picks depth 20)
