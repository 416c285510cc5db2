use native.Mathlib.Omega.{arith}
use Prim.Native.Nat.{suc}
use Rattle.std.proofs.Math.Nat.{pow-suc}
use Rattle.text.proofs.DecimalLaws.{count_last, digits_below, digits_from}
use Rattle.text.proofs.decimal.digit_count.Goals as goal

pub returns-then-n-lt10 : goal.returns-then-n-lt10
returns-then-n-lt10 c =
    let l = count_last 19 c.args.n c.if-n-lt10.true in
    record { value = omega (arith, l); upper_bound = omega arith }

pub returns : goal.returns
returns c =
    let n = c.args.n in
    let r = c.ilog10.result in
    let e = c.ilog10.ensures in
    let more = digits_from 20 r n e.power_le e.bound in
    let most = digits_below 20 (suc r) n (omega arith) (omega (arith, e.next_power_gt, pow-suc 10 r)) in
    record { value = omega (arith, more, most); upper_bound = omega (arith, e.bound) }
