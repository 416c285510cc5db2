use mathlib.Core.List.{[]}
use Rattle.reply.specs.Reply.{good}
use Rattle.reply.specs.Outcome.{fails}
use Rattle.reply.proofs.Finish.{said, handed_on}
use Rattle.password.specs.Password.{write_password_of}
use Rattle.password.specs.Claims.{password_by}
use Rattle.password.proofs.ByVerdict.{password_by_verdict}
use Rattle.password.proofs.write.Goals as goal

pub returns-in-Err : goal.returns-in-Err
unfolding password_by
returns-in-Err c =
    let a = c.args in
    handed_on (write_password_of a.v a.m.now a.n a.frame.now a.at) a.out.now (fails c.password_error.result a.v a.m.now) (c.fail.ensures a.m.now)
    (rw (password_by_verdict a.v a.m.now a.n a.frame.now a.at, ← c.verdict-verdict.ensures, c.in-Err.is, c.password_error.ensures))

pub returns-in-Ok : goal.returns-in-Ok
unfolding password_by
returns-in-Ok c =
    let a = c.args in
    said (write_password_of a.v a.m.now a.n a.frame.now a.at) _ (good []) c.done.ensures
    (rw (password_by_verdict a.v a.m.now a.n a.frame.now a.at, ← c.verdict-verdict.ensures, c.in-Ok.is, c.with_passwords.ensures, c.with_radio-passwords.ensures, c.at.ensures))
