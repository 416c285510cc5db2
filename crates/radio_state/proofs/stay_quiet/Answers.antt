use Rattle.reply.proofs.Finish.{silent}
use Rattle.radio_state.specs.RadioState.{stay_quiet_of}
use Rattle.radio_state.proofs.stay_quiet.Goals as goal

pub returns : goal.returns
unfolding stay_quiet_of
returns c =
    let a = c.args in
    silent (stay_quiet_of a.v a.m.now) (rw (c.with_air-next.ensures, c.stay_quiet.ensures))
