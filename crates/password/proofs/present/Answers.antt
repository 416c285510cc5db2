use mathlib.Core.Path.{ap, ◌∙◌}
use mathlib.Core.Bool.{not}
use mathlib.Core.List.{[]}
use native.Mathlib.Omega.{arith}
use Rattle.keys.proofs.Same.{password_eq}
use Rattle.parts.proofs.Picks.{picks}
use Rattle.errors.specs.declared.RadioError.TheVariants.{NoSuchPassword, WrongPassword}
use Rattle.reply.specs.Reply.{good}
use Rattle.reply.specs.Outcome.{fails}
use Rattle.reply.proofs.Finish.{said, handed_on}
use Rattle.password.specs.Password.{present_of}
use Rattle.password.proofs.present.Goals as goal

pub returns-then-n-gt-LAST : goal.returns-then-n-gt-LAST
unfolding present_of
returns-then-n-gt-LAST c =
    let a = c.args in
    handed_on (present_of a.v a.m.now a.n a.frame.now a.at) a.out.now (fails NoSuchPassword a.v a.m.now) (c.fail.ensures a.m.now) (search picks depth 20)

pub returns-then-ne : goal.returns-then-ne
unfolding present_of
returns-then-ne c =
    let a = c.args in
    let same = rw (c.radio.ensures, c.at.ensures) at (c.ne.ensures ∙ ap not (password_eq c.radio.result c.at.result (omega arith) (omega arith))) in
    handed_on (present_of a.v a.m.now a.n a.frame.now a.at) a.out.now (fails WrongPassword c.with_air-closed.result a.m.now) (c.fail-then-ne.ensures a.m.now)
    (rw (c.with_air-closed.ensures, c.with_session.ensures, ← same) (search picks depth 20))

pub returns : goal.returns
unfolding present_of
returns c =
    let a = c.args in
    let same = rw (c.radio.ensures, c.at.ensures) at (c.ne.ensures ∙ ap not (password_eq c.radio.result c.at.result (omega arith) (omega arith))) in
    said (present_of a.v a.m.now a.n a.frame.now a.at) _ (good []) c.done.ensures
    (rw (c.with_air-opened.ensures, c.with_session-2.ensures, ← same) (search picks depth 20))
