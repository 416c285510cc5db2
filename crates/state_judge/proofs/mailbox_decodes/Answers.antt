use Rattle.state.specs.Layout.{mailbox_decodes}
use Rattle.state_judge.proofs.mailbox_decodes.Goals as goal

pub returns : goal.returns
unfolding mailbox_decodes
returns c =
    rw (c.is_flag_at-5.ensures, c.is_flag_at-4.ensures, c.is_flag_at-3.ensures, c.is_flag_at-2.ensures, c.is_flag_at.ensures)
