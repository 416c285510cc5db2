use mathlib.Core.Path.{◌≡◌}
use native.Mathlib.Omega.{arith}
use borrow.Author.Tests.{ne_eqb}
use Rattle.parts.specs.Pick.{pick}
use Rattle.parts.proofs.Picks.{pick_false}
use Rattle.unfinished.proofs.Held.{joins}
use Rattle.unfinished.proofs.join.Goals as goal

pub returns-then-have-eq0 : goal.returns-then-have-eq0
unfolding pick
returns-then-have-eq0 c =
    let z : c.args.have ≡ 0 = omega (arith, c.if-have-eq0.true) in
    record { kept_after = rw z; upper_bound = omega arith; value = rw z; kept_after_2 = rw z }

pub returns : goal.returns
returns c =
    let a = c.args in
    let held = c.hold.ensures in
    let some : a.have ≡ 0 → ⊥ = λ z. c.if-have-eq0.false (omega (arith, z)) in
    record { kept_after = joins a.have c.hold.result a.s.now _ _ some (omega (arith, held.value)) held.kept_after; upper_bound = omega (arith, held.value); value = pick_false _ _ _ _ (ne_eqb a.have 0 some) held.value; kept_after_2 = pick_false _ _ _ _ (ne_eqb a.have 0 some) held.kept_after_2 }
