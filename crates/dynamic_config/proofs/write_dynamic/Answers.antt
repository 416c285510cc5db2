use mathlib.Core.List.{[]}
use Rattle.parts.proofs.Picks.{picks}
use Rattle.errors.specs.declared.RadioError.TheVariants.{NoSuchDynamicRegister}
use Rattle.reply.specs.Reply.{good}
use Rattle.reply.specs.Outcome.{fails}
use Rattle.reply.proofs.Finish.{said, handed_on}
use Rattle.dynamic_config.specs.DynamicConfig.{write_dynamic_of}
use Rattle.dynamic_config.proofs.write_dynamic.Goals as goal

pub returns-then-pointer-ne-MB_CTRL_POINTER : goal.returns-then-pointer-ne-MB_CTRL_POINTER
unfolding write_dynamic_of
returns-then-pointer-ne-MB_CTRL_POINTER c =
    let a = c.args in
    handed_on (write_dynamic_of a.v a.m.now a.vcc a.pointer a.x) a.out.now (fails NoSuchDynamicRegister a.v a.m.now) (c.fail.ensures a.m.now) (search picks depth 20)

pub returns : goal.returns
unfolding write_dynamic_of
returns c =
    let a = c.args in
    said (write_dynamic_of a.v a.m.now a.vcc a.pointer a.x) _ (good []) c.done.ensures
    (rw (c.with_mailbox-next.ensures, c.control.ensures) (search picks depth 20))
