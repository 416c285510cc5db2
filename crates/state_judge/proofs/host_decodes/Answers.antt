use Rattle.state.specs.Layout.{host_decodes}
use Rattle.state_judge.proofs.host_decodes.Goals as goal

pub returns : goal.returns
unfolding host_decodes
returns c = rw (c.bus_decodes.ensures, c.is_flag_at-3.ensures, c.is_flag_at-2.ensures, c.is_flag_at.ensures)
