use mathlib.Core.Path.{◌≡◌, refl}
use Prim.Native.Nat.{◌+◌, ◌-◌, ◌*◌}
use native.Mathlib.Omega.{arith}
use native.Mathlib.Numerals.{add-one}
use lib.ListN.{length}
use Rattle.rack.specs.Rack.{devices_of}
use Rattle.rack.specs.Rules.{all_in_range}
use Rattle.rack_judge.proofs.Ranges.{ranges_more}
use borrow.Author.Rules.{rules}
use Rattle.rack_judge.proofs.all_in_range.Goals as goal

pub loop-i-init : goal.loop-i-init
unfolding devices_of all_in_range
loop-i-init c = refl

pub loop-i-preserved : goal.loop-i-preserved
loop-i-preserved c =
    let l = c.loop-i in
    let a = c.args in
    let p = c.requires in
    let at = l.i * 1024 in
    let number : length a.tags ≡ 16 = search rules in
    rw (add-one l.i) (ranges_more a.tags a.memory.now l.i at (at + 1024 - at) _ l.all c.in_range-one.result (omega (arith, p.0, number)) refl (omega arith) l.invariant c.in_range-one.ensures)

pub returns : goal.returns
returns c =
    let l = c.loop-i in
    let e : l.i ≡ c.args.n = omega arith in
    rw (← e) l.invariant
