use mathlib.Core.Path.{◌≡◌, refl}
use Prim.Native.Nat.{◌-◌, ◌<◌}
use native.Mathlib.Omega.{arith}
use native.Mathlib.Numerals.{add-one}
use lib.ListN.{length}
use Rattle.rack.specs.Rules.{equal_uids}
use Rattle.rack_judge.proofs.Uids.{uids_of, gathered_next, equal_next}
use borrow.Author.Rules.{rules}
use Rattle.rack_judge.proofs.equal_uids.Goals as goal

pub loop-i-init : goal.loop-i-init
unfolding uids_of equal_uids
loop-i-init c = (refl, refl)

pub loop-i-preserved : goal.loop-i-preserved
loop-i-preserved c =
    let l = c.loop-i in
    let a = c.args in
    let number : length a.tags ≡ 16 = search rules in
    let h : l.i < length a.tags = omega (arith, number) in (
      rw (add-one l.i) (gathered_next a.tags l.i _ h number l.uids l.invariant.0),
      rw (add-one l.i) (equal_next a.tags l.i _ h number l.uids l.found c.uid_among-one.result l.invariant.0 l.invariant.1 c.uid_among-one.ensures),
    )

pub returns : goal.returns
returns c =
    let l = c.loop-i in
    let a = c.args in
    let e : l.i ≡ a.n = omega arith in
    rw (← e) l.invariant.1
