use mathlib.Core.Path.{refl, sym, ap, ◌∙◌}
use Prim.Native.Nat.{ℕ, ◌+◌}
use native.Mathlib.Omega.{arith}
use lib.ListN.{drop}
use lib.Bits.{bit_xor}
use Rattle.crc.specs.Crc.{crc_of, run}
use Rattle.crc.proofs.Run.{run_on, run_end}
use Rattle.crc.proofs.over.Goals as goal

pub loop-x-init : goal.loop-x-init
loop-x-init c = refl

pub loop-x-preserved : goal.loop-x-preserved
loop-x-preserved c =
    let s = c.args.s.now in
    let l = c.loop-x in
    ap (λ (x : ℕ). run x (drop (l.x-index + 1) s)) c.feed-c.ensures ∙ run_on s l.x-index l.c (omega arith) ∙ l.invariant

pub returns : goal.returns
unfolding crc_of
returns c =
    let s = c.args.s.now in
    let l = c.loop-x in
    ap (λ (x : ℕ). bit_xor x 0xffff) (sym (run_end s l.x-index l.c (omega arith)) ∙ l.invariant)
