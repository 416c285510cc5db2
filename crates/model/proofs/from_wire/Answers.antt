use Rattle.model.specs.Step.{from_wire}
use Rattle.model.proofs.from_wire.Goals as goal

-- src/lib.rt:77:1
pub returns-in-Nothing : goal.returns-in-Nothing
unfolding from_wire
returns-in-Nothing c = rw c.in-Nothing.is

-- src/lib.rt:77:1
pub returns-in-Ack : goal.returns-in-Ack
unfolding from_wire
returns-in-Ack c = rw c.in-Ack.is

-- src/lib.rt:77:1
pub returns-in-NoAck : goal.returns-in-NoAck
unfolding from_wire
returns-in-NoAck c = rw c.in-NoAck.is

-- src/lib.rt:77:1
pub returns-in-Byte : goal.returns-in-Byte
unfolding from_wire
returns-in-Byte c = rw c.in-Byte.is
