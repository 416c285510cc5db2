use Rattle.state.specs.Layout.{bus_at}
use Rattle.state_decode.proofs.bus_at.Goals as goal

pub returns : goal.returns
unfolding bus_at
returns c =
    rw (c.bus_of.ensures, c.byte_in-6.ensures, c.flag_at-2.ensures, c.flag_at.ensures, c.byte_in-5.ensures, c.word_of-count.ensures, c.byte_in-4.ensures, c.byte_in-3.ensures, c.space_of-space.ensures, c.byte_in-2.ensures, c.byte_in.ensures)
