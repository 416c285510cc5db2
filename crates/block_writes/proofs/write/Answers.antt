use Rattle.parts.proofs.Picks.{picks}
use Rattle.errors.specs.declared.RadioError.TheVariants.{TooManyBlocks, NoSuchBlock, WriteLeavesArea, WriteForbidden}
use Rattle.reply.specs.Reply.{good}
use Rattle.reply.specs.Outcome.{fails}
use Rattle.reply.proofs.Finish.{said, handed_on}
use Rattle.block_writes.specs.Writes.{write_of}
use mathlib.Core.Path.{sym, ◌∙◌}
use mathlib.Core.List.{[]}
use Prim.Native.Nat.{◌+◌}
use native.Mathlib.Omega.{arith}
use Rattle.block_writes.proofs.Inside.{inside}
use Rattle.block_writes.proofs.ByVerdict.{writes_by_verdict}
use Rattle.block_writes.proofs.write.Goals as goal

pub returns-then-more-gt3 : goal.returns-then-more-gt3
unfolding write_of
returns-then-more-gt3 c =
    let a = c.args in
    handed_on (write_of a.v a.m.now a.first a.more a.frame.now a.at) a.out.now (fails TooManyBlocks a.v a.m.now) (c.fail.ensures a.m.now) (search picks depth 20)

pub returns-then-first-ge-BLOCKS : goal.returns-then-first-ge-BLOCKS
unfolding write_of
returns-then-first-ge-BLOCKS c =
    let a = c.args in
    handed_on (write_of a.v a.m.now a.first a.more a.frame.now a.at) a.out.now (fails NoSuchBlock a.v a.m.now) (c.fail-then-first-ge-BLOCKS.ensures a.m.now) (search picks depth 20)

pub returns-then-leaves_area : goal.returns-then-leaves_area
unfolding write_of
returns-then-leaves_area c =
    let a = c.args in
    handed_on (write_of a.v a.m.now a.first a.more a.frame.now a.at) a.out.now (fails WriteLeavesArea a.v a.m.now) (c.fail-then-leaves_area.ensures a.m.now)
    (rw (← c.leaves_area.ensures) (search picks depth 20))

pub returns-then-not-all_allowed : goal.returns-then-not-all_allowed
unfolding write_of
returns-then-not-all_allowed c =
    let a = c.args in
    let within = inside _ _ _ (sym c.leaves_area.ensures ∙ c.if-leaves_area.false) in
    let may = writes_by_verdict a.v.core a.v.air.session a.first (a.more + 1) (omega (arith, within)) ∙ sym c.all_allowed.ensures in
    handed_on (write_of a.v a.m.now a.first a.more a.frame.now a.at) a.out.now (fails WriteForbidden a.v a.m.now) (c.fail-then-not-all_allowed.ensures a.m.now)
    (rw (← c.leaves_area.ensures, may) (search picks depth 20))

pub returns : goal.returns
unfolding write_of
returns c =
    let a = c.args in
    let within = inside _ _ _ (sym c.leaves_area.ensures ∙ c.if-leaves_area.false) in
    let may = writes_by_verdict a.v.core a.v.air.session a.first (a.more + 1) (omega (arith, within)) ∙ sym c.all_allowed.ensures in
    said (write_of a.v a.m.now a.first a.more a.frame.now a.at) _ (good []) c.done.ensures
    (rw (c.put_bytes.ensures, ← c.leaves_area.ensures, may) (search picks depth 20))
