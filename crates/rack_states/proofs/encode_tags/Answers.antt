use mathlib.Core.Path.{◌≡◌}
use Prim.Native.Nat.{◌+◌, ◌-◌, ◌*◌}
use native.Mathlib.Omega.{arith}
use lib.ListN.{length}
use Rattle.rack_states.proofs.Encoding.{encoding_starts, encoding_more, encoding_ends}
use borrow.Author.Rules.{rules}
use Rattle.rack_states.proofs.encode_tags.Goals as goal

pub loop-i-init : goal.loop-i-init
loop-i-init c = encoding_starts c.args.s.now _

pub loop-i-preserved : goal.loop-i-preserved
loop-i-preserved c =
    let sixteen_here : length c.args.tags ≡ 16 = search rules in
    let l = c.loop-i in
    let at = l.i * 87 in
    encoding_more c.args.s.now c.args.tags l.s l.i (at + 87 - at) _ c.encode.new.s
    l.invariant sixteen_here (omega (arith, c.min-i-end.ensures)) (omega (arith, c.min-i-end.ensures, l.auto.s)) (omega arith) c.encode.ensures.s_after c.encode.ensures.t_len

pub returns : goal.returns
returns c =
    let sixteen_here : length c.args.tags ≡ 16 = search rules in
    let l = c.loop-i in
    encoding_ends c.args.s.now c.args.tags l.s l.i l.invariant sixteen_here (omega (arith, c.min-i-end.ensures))
