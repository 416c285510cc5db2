use Rattle.state.specs.Layout.{mailbox_at}
use Rattle.state_decode.proofs.mailbox_at.Goals as goal

pub returns : goal.returns
unfolding mailbox_at
returns c =
    rw (c.word_of.ensures, c.byte_in-2.ensures, c.byte_in.ensures, c.flag_at-5.ensures, c.flag_at-4.ensures, c.flag_at-3.ensures, c.flag_at-2.ensures, c.flag_at.ensures)
