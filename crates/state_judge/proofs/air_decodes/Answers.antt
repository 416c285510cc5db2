use Rattle.state.specs.Layout.{air_decodes}
use Rattle.state_judge.proofs.air_decodes.Goals as goal

pub returns : goal.returns
unfolding air_decodes
returns c = rw (c.byte_in.ensures, c.is_flag_at.ensures)
