use mathlib.Core.List.{[]}
use Rattle.reply.specs.Reply.{good}
use Rattle.reply.specs.Outcome.{fails}
use Rattle.reply.proofs.Finish.{said, handed_on}
use Rattle.config.specs.Config.{write_config_of}
use Rattle.config.specs.Claims.{config_by}
use Rattle.config.proofs.ByVerdict.{config_by_verdict}
use Rattle.config.proofs.write.Goals as goal

pub returns-in-Ok : goal.returns-in-Ok
unfolding config_by
returns-in-Ok c =
    let a = c.args in
    let by = config_by_verdict a.v a.m.now a.pointer a.x in
    said (write_config_of a.v a.m.now a.pointer a.x) _ (good []) c.done.ensures
    (rw (by, ← c.verdict-verdict.ensures, c.in-Ok.is, c.written_core-core.ensures))

pub returns-in-Err : goal.returns-in-Err
unfolding config_by
returns-in-Err c =
    let a = c.args in
    let by = config_by_verdict a.v a.m.now a.pointer a.x in
    handed_on (write_config_of a.v a.m.now a.pointer a.x) a.out.now (fails c.config_error.result a.v a.m.now) (c.fail.ensures a.m.now)
    (rw (by, ← c.verdict-verdict.ensures, c.in-Err.is, c.config_error.ensures))
