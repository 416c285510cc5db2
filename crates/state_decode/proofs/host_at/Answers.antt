use Rattle.state.specs.Layout.{host_at}
use Rattle.state_decode.proofs.host_at.Goals as goal

pub returns : goal.returns
unfolding host_at
returns c =
    rw (c.bus_at.ensures, c.word_of.ensures, c.byte_in-2.ensures, c.byte_in.ensures, c.flag_at-3.ensures, c.flag_at-2.ensures, c.flag_at.ensures)
