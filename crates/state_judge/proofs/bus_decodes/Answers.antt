use Rattle.state.specs.Layout.{bus_decodes}
use Rattle.state_judge.proofs.bus_decodes.Goals as goal

pub returns : goal.returns
unfolding bus_decodes
returns c =
    rw (c.is_bus.ensures, c.byte_in-8.ensures, c.byte_in-7.ensures, c.byte_in-6.ensures, c.byte_in-5.ensures, c.byte_in-4.ensures, c.byte_in-3.ensures, c.byte_in-2.ensures, c.byte_in.ensures)
