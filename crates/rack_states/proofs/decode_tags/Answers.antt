use Prim.Native.Nat.{◌+◌, ◌-◌, ◌*◌}
use native.Mathlib.Omega.{arith}
use Rattle.rack_states.proofs.States.{whole_state}
use Rattle.rack_states.proofs.Decoding.{decoding_starts, decoding_more, decoding_ends}
use Rattle.rack_states.proofs.decode_tags.Goals as goal

pub loop-i-init : goal.loop-i-init
loop-i-init c = decoding_starts c.args.s.now c.spare_tag-spare.result c.spare_tag-spare.ensures

pub loop-i-preserved : goal.loop-i-preserved
loop-i-preserved c =
    let l = c.loop-i in
    let s = c.args.s.now in
    let at = l.i * 87 in
    decoding_more s l.tags l.i (at + 87 - at) c.decode_state.result l.invariant (omega (arith, c.min-i-end.ensures)) (omega arith)
    (whole_state s at (at + 87 - at) c.decode_state.result (omega arith) (omega (arith, c.min-i-end.ensures)) c.decode_state.ensures)

pub returns : goal.returns
returns c =
    let l = c.loop-i in
    decoding_ends c.args.s.now l.tags l.i l.invariant (omega (arith, c.min-i-end.ensures))
