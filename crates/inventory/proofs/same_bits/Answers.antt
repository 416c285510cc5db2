use mathlib.Core.Path.{◌≡◌, refl}
use native.Mathlib.Omega.{arith}
use native.Mathlib.Numerals.{add-one}
use Rattle.inventory.specs.Inventory.{same_bits}
use Rattle.inventory.proofs.same_bits.Goals as goal

pub loop-i-init : goal.loop-i-init
unfolding same_bits
loop-i-init c = refl

pub loop-i-preserved : goal.loop-i-preserved
unfolding same_bits
loop-i-preserved c =
    let l = c.loop-i in
    rw (add-one l.i, c.bit_at.ensures.value, c.bit_at-in-loop-i.ensures.value, l.invariant)

pub returns : goal.returns
returns c =
    let l = c.loop-i in
    let e : l.i ≡ c.args.n = omega arith in
    rw (← e) l.invariant
