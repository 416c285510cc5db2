use Rattle.mailbox.specs.Mailbox.{control_byte}
use Rattle.mailbox.proofs.Mailbox.control_byte.Goals as goal

pub returns : goal.returns
unfolding control_byte
returns c =
    rw (c.weight-rf_current.ensures.value, c.weight-host_current.ensures.value, c.weight-rf_put.ensures.value, c.weight-host_put.ensures.value, c.weight-en.ensures.value)
