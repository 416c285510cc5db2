use mathlib.Core.Path.{ap, ◌∙◌}
use mathlib.Core.List.{List}
use Prim.Native.Nat.{ℕ, ◌+◌}
use lib.Seq.{sets}
use Rattle.parts.proofs.Picks.{picks}
use Rattle.errors.specs.declared.RadioError.TheVariants.{NoSuchBlock, ReadLeavesArea, ReadProtected}
use Rattle.reply.specs.Reply.{good}
use Rattle.reply.specs.Outcome.{fails}
use Rattle.reply.proofs.Finish.{said, handed_on, good_run}
use Rattle.blocks.specs.Blocks.{blocks_of, read_of}
use Rattle.blocks.proofs.read.Goals as goal

pub returns-then-above : goal.returns-then-above
unfolding read_of
returns-then-above c =
    let a = c.args in
    handed_on (read_of a.v a.m.now a.option a.first a.more) a.out.now (fails NoSuchBlock a.v a.m.now) (c.fail.ensures a.m.now) (search picks depth 20)

pub returns-then-leaving : goal.returns-then-leaving
unfolding read_of
returns-then-leaving c =
    let a = c.args in
    handed_on (read_of a.v a.m.now a.option a.first a.more) a.out.now (fails ReadLeavesArea a.v a.m.now) (c.fail-then-leaving.ensures a.m.now)
    (rw (← c.leaves_area-leaving.ensures) (search picks depth 20))

pub returns-then-not-may_read : goal.returns-then-not-may_read
unfolding read_of
returns-then-not-may_read c =
    let a = c.args in
    handed_on (read_of a.v a.m.now a.option a.first a.more) a.out.now (fails ReadProtected a.v a.m.now) (c.fail-then-not-may_read.ensures a.m.now)
    (rw (← c.leaves_area-leaving.ensures, ← c.may_read.ensures) (search picks depth 20))

pub returns : goal.returns
unfolding read_of
returns c =
    let a = c.args in
    let blocks = blocks_of a.v.core.registers a.v.air.session a.m.now a.option a.first (a.more + 1) in
    said (read_of a.v a.m.now a.option a.first a.more) _ (good blocks)
    (good_run blocks a.out.now c.put_blocks-n.new.out c.put_blocks-n.result
    c.put_blocks-n.ensures.value
    (c.put_blocks-n.ensures.out_after ∙ ap (λ (o : List ℕ). sets o 1 blocks) c.put.ensures)
    c.close.ensures)
    (rw (← c.leaves_area-leaving.ensures, ← c.may_read.ensures) (search picks depth 20))
