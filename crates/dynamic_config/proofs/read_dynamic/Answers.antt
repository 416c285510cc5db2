use mathlib.Core.List.{[], ◌∷◌}
use Rattle.parts.proofs.Picks.{picks}
use Rattle.errors.specs.declared.RadioError.TheVariants.{NoSuchDynamicRegister}
use Rattle.reply.specs.Reply.{good}
use Rattle.reply.specs.Outcome.{fails}
use Rattle.reply.proofs.Finish.{said, handed_on}
use Rattle.dynamic_config.specs.DynamicConfig.{read_dynamic_of}
use Rattle.dynamic_config.proofs.read_dynamic.Goals as goal

pub returns-then-pointer-ne-MB_CTRL_POINTER : goal.returns-then-pointer-ne-MB_CTRL_POINTER
unfolding read_dynamic_of
returns-then-pointer-ne-MB_CTRL_POINTER c =
    let a = c.args in
    handed_on (read_dynamic_of a.v a.m.now a.pointer) a.out.now (fails NoSuchDynamicRegister a.v a.m.now) (c.fail.ensures a.m.now) (search picks depth 20)

pub returns : goal.returns
unfolding read_dynamic_of
returns c =
    let a = c.args in
    said (read_dynamic_of a.v a.m.now a.pointer) _ (good (c.control_byte-x.result ∷ [])) c.byte.ensures
    (rw c.control_byte-x.ensures (search picks depth 20))
