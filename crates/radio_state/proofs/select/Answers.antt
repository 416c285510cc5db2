use mathlib.Core.List.{[]}
use Rattle.parts.proofs.Picks.{picks}
use Rattle.reply.specs.Reply.{good}
use Rattle.reply.proofs.Finish.{said, silent}
use Rattle.radio_state.specs.RadioState.{select_uid_of}
use Rattle.radio_state.proofs.select.Goals as goal

pub returns-then-own : goal.returns-then-own
unfolding select_uid_of
returns-then-own c =
    let a = c.args in
    said (select_uid_of a.v a.m.now a.own) _ (good []) c.done.ensures
    (rw (c.with_air-next.ensures, c.select.ensures) (search picks depth 20))

pub returns : goal.returns
unfolding select_uid_of
returns c =
    let a = c.args in
    silent (select_uid_of a.v a.m.now a.own) (rw (c.with_air-next-2.ensures, c.deselect.ensures) (search picks depth 20))
