use Rattle.state.specs.Layout.{air_at}
use Rattle.state_decode.proofs.air_at.Goals as goal

pub returns : goal.returns
unfolding air_at
returns c = rw (c.byte_in-3.ensures, c.byte_in-2.ensures, c.radio_state_of.ensures, c.byte_in.ensures, c.flag_at.ensures)
