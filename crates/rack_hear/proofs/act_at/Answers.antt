use mathlib.Core.Path.{◌≡◌, ap}
use Prim.Native.Nat.{◌+◌, ◌-◌}
use native.Mathlib.Omega.{arith}
use Rattle.parts.proofs.Picks.{pick_true, pick_false}
use Rattle.model.specs.Step.{StepResult}
use Rattle.rack_hear.specs.Hear.{acted_at, act_at}
use Rattle.rack_hear.proofs.act_at.Goals as goal

-- src/lib.rt:154:9
pub returns-then-heard : goal.returns-then-heard
unfolding act_at
returns-then-heard c =
    let a = c.args.heard in
    let i = c.args.i in
    let m = c.args.memory.now in
    let o = c.args.out.now in
    let n : a.at + 1024 - a.at ≡ 1024 = omega arith in
    pick_true _ _ _ a.replied c.if-heard.true
    (rw (c.noted.ensures, n) (ap (acted_at a i m o) (rw (n, c.signal_by-signal.ensures) at c.act-o.ensures)))

-- src/lib.rt:134:1
pub returns : goal.returns
unfolding act_at
returns c =
    let a = c.args.heard in
    let i = c.args.i in
    let m = c.args.memory.now in
    let n : a.at + 1024 - a.at ≡ 1024 = omega arith in
    pick_false _ _ _ a.replied c.if-heard.false
    (rw (c.noted-2.ensures, n) (ap (λ (e : StepResult). acted_at a i m e.reply e) (rw (n, c.signal_by-signal.ensures) at c.act-o-2.ensures)))
