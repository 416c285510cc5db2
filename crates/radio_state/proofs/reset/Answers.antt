use mathlib.Core.List.{[]}
use Rattle.reply.specs.Reply.{good}
use Rattle.reply.proofs.Finish.{said}
use Rattle.radio_state.specs.RadioState.{reset_to_ready_of}
use Rattle.radio_state.proofs.reset.Goals as goal

pub returns : goal.returns
unfolding reset_to_ready_of
returns c =
    let a = c.args in
    said (reset_to_ready_of a.v a.m.now) _ (good []) c.done.ensures (rw (c.with_air-next.ensures, c.reset.ensures))
