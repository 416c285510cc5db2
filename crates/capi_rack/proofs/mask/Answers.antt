use mathlib.Core.Path.{◌≡◌, sym, subst}
use mathlib.Core.Bool.{false}
use Prim.Native.Nat.{ℕ, ◌-◌, ◌≤◌}
use native.Mathlib.Omega.{arith}
use lib.ListN.{length}
use Rattle.capi_rack.proofs.Masking.{small, picked, masking_starts, masking_more, masking_ends}
use borrow.Author.Rules.{rules}
use Rattle.capi_rack.proofs.mask.Goals as goal

pub loop-i-init : goal.loop-i-init
loop-i-init c = masking_starts c.args.answered

pub overflow_add-mask : goal.overflow_add-mask
overflow_add-mask c =
    let bounds_here : (c.loop-i.bit ≤ 65536) × (c.bit_if-mask.result ≤ c.loop-i.bit) = let l = c.loop-i in
    (small _ l.mask l.bit l.i l.invariant, subst (λ (n : ℕ). n ≤ l.bit) (sym c.bit_if-mask.ensures) (picked _ l.bit)) in
    omega (arith, bounds_here.0, bounds_here.1, c.loop-i.invariant.below)

pub overflow_mul-bit : goal.overflow_mul-bit
overflow_mul-bit c =
    let bounds_here : (c.loop-i.bit ≤ 65536) × (c.bit_if-mask.result ≤ c.loop-i.bit) = let l = c.loop-i in
    (small _ l.mask l.bit l.i l.invariant, subst (λ (n : ℕ). n ≤ l.bit) (sym c.bit_if-mask.ensures) (picked _ l.bit)) in
    omega (arith, bounds_here.0, bounds_here.1, c.loop-i.invariant.below)

pub loop-i-preserved : goal.loop-i-preserved
loop-i-preserved c =
    let sixteen_here : length c.args.answered ≡ 16 = search rules in
    let l = c.loop-i in
    masking_more c.args.answered l.mask l.bit l.i c.bit_if-mask.result false l.invariant (omega (arith, sixteen_here)) sixteen_here c.bit_if-mask.ensures

pub returns : goal.returns
returns c =
    let sixteen_here : length c.args.answered ≡ 16 = search rules in
    let l = c.loop-i in
    masking_ends c.args.answered l.mask l.bit l.i l.invariant (omega (arith, sixteen_here, l.invariant.few))
