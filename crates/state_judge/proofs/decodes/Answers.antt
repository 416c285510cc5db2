use Rattle.state.specs.Layout.{decodes}
use Rattle.state_judge.proofs.decodes.Goals as goal

pub returns : goal.returns
unfolding decodes
returns c = rw (c.mailbox_decodes.ensures, c.host_decodes.ensures, c.air_decodes.ensures)
