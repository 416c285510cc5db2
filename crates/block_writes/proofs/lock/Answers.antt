use mathlib.Core.List.{[]}
use Rattle.parts.proofs.Picks.{picks}
use Rattle.errors.specs.declared.RadioError.TheVariants.{NotLockable, AlreadyLocked}
use Rattle.reply.specs.Reply.{good}
use Rattle.reply.specs.Outcome.{fails}
use Rattle.reply.proofs.Finish.{said, handed_on}
use Rattle.block_writes.specs.Writes.{lock_of}
use Rattle.block_writes.proofs.lock.Goals as goal

pub returns-then-block-gt1 : goal.returns-then-block-gt1
unfolding lock_of
returns-then-block-gt1 c =
    let a = c.args in
    handed_on (lock_of a.v a.m.now a.block) a.out.now (fails NotLockable a.v a.m.now) (c.fail.ensures a.m.now) (search picks depth 20)

pub returns-then-is_locked : goal.returns-then-is_locked
unfolding lock_of
returns-then-is_locked c =
    let a = c.args in
    handed_on (lock_of a.v a.m.now a.block) a.out.now (fails AlreadyLocked a.v a.m.now) (c.fail-then-is_locked.ensures a.m.now)
    (rw (← c.is_locked.ensures) (search picks depth 20))

pub returns : goal.returns
unfolding lock_of
returns c =
    let a = c.args in
    said (lock_of a.v a.m.now a.block) _ (good []) c.done.ensures
    (rw (c.with_registers-next.ensures, c.write_to.ensures, c.keep.ensures, ← c.is_locked.ensures) (search picks depth 20))
