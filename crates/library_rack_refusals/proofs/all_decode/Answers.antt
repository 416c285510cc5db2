use mathlib.Core.Path.{◌≡◌, ap, ◌∙◌}
use mathlib.Core.Bool.{◌&&◌}
use Prim.Native.Nat.{ℕ, ◌+◌, ◌-◌, ◌*◌}
use native.Mathlib.Omega.{arith}
use native.Mathlib.Nat.{sub-zero}
use lib.ListN.{drop}
use Rattle.rack_states.specs.States.{all_decode}
use Rattle.library_rack_refusals.proofs.Loops.{decodes_more, all_done}
use Rattle.library_rack_refusals.proofs.all_decode.Goals as goal

pub loop-i-init : goal.loop-i-init
loop-i-init c =
    let a = c.args in
    ap (λ (n : ℕ). all_decode n a.s.now) (sub-zero a.n)

pub loop-i-preserved : goal.loop-i-preserved
loop-i-preserved c =
    let l = c.loop-i in
    let a = c.args in
    let at = l.i * 87 in
    let one = c.decodes-one.result in
    let next : (l.i + 1) * 87 ≡ at + 87 = omega arith in
    ap (λ (k : ℕ). l.all && one && all_decode (a.n - (l.i + 1)) (drop k a.s.now)) next
    ∙ decodes_more a.s.now l.all one l.i a.n at (at + 87 - at) (omega arith) (omega arith) c.decodes-one.ensures l.invariant

pub returns : goal.returns
returns c =
    let l = c.loop-i in
    let a = c.args in
    all_done l.all l.i a.n (l.i * 87) a.s.now (omega arith) l.invariant
