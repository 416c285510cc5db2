use Rattle.state.specs.Layout.{tag_of}
use Rattle.state_decode.proofs.decode.Goals as goal

pub returns : goal.returns
unfolding tag_of
returns c =
    rw (c.at.ensures, c.host_at.ensures, c.air_at.ensures, c.passwords_at.ensures, c.mailbox_at.ensures, c.registers_at.ensures)
