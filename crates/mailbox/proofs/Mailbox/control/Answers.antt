use Rattle.register_types.proofs.Passed.{picks}
use Rattle.mailbox.specs.Mailbox.{controlled}
use Rattle.mailbox.proofs.Mailbox.control.Goals as goal

pub returns-then-byte-eq1 : goal.returns-then-byte-eq1
unfolding controlled
returns-then-byte-eq1 c = rw c.enable.ensures (search picks depth 20)

pub returns : goal.returns
unfolding controlled
returns c = rw c.disable.ensures (search picks depth 20)
