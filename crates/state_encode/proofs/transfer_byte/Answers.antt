use Rattle.state.specs.Layout.{transfer_byte}
use Rattle.state_encode.proofs.transfer_byte.Goals as goal

pub returns-in-None : goal.returns-in-None
unfolding transfer_byte
returns-in-None c = rw c.in-None.is

pub returns-in-Some : goal.returns-in-Some
unfolding transfer_byte
returns-in-Some c = rw c.in-Some.is
