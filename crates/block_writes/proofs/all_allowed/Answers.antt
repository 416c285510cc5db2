use mathlib.Core.Path.{◌≡◌, refl, ap, ◌∙◌}
use Prim.Native.Nat.{◌+◌}
use native.Mathlib.Omega.{arith}
use native.Mathlib.Numerals.{add-one}
use Rattle.std.specs.Prelude.{is_ok}
use Rattle.block_writes.specs.Claims.{all_allowed}
use Rattle.block_writes.proofs.all_allowed.Goals as goal

pub loop-k-init : goal.loop-k-init
unfolding all_allowed
loop-k-init c = refl

pub loop-k-preserved : goal.loop-k-preserved
unfolding all_allowed
loop-k-preserved c =
    let l = c.loop-k in
    let one = c.is_ok-all.ensures.value ∙ ap is_ok c.verdict-verdict.ensures in
    rw (l.invariant, one, add-one l.k)

pub returns : goal.returns
returns c =
    let l = c.loop-k in
    let a = c.args in
    let e : l.k ≡ a.more + 1 = omega arith in
    l.invariant ∙ ap (all_allowed a.c a.session a.first) e
