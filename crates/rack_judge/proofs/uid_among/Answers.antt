use mathlib.Core.Path.{◌≡◌, refl}
use Prim.Native.Nat.{◌-◌}
use native.Mathlib.Omega.{arith}
use native.Mathlib.Numerals.{add-one}
use Rattle.rack_judge.specs.Judge.{uid_among}
use Rattle.rack_judge.proofs.uid_among.Goals as goal

pub loop-i-init : goal.loop-i-init
unfolding uid_among
loop-i-init c = refl

pub loop-i-preserved : goal.loop-i-preserved
unfolding uid_among
loop-i-preserved c =
    let l = c.loop-i in
    rw (add-one l.i, c.same-found.ensures, l.invariant)

pub returns : goal.returns
returns c =
    let l = c.loop-i in
    let e : l.i ≡ c.args.n = omega arith in
    rw (← e) l.invariant
