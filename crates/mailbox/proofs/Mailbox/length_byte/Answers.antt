use Rattle.mailbox.specs.Mailbox.{length_byte}
use Rattle.mailbox.proofs.Mailbox.length_byte.Goals as goal

pub returns : goal.returns
unfolding length_byte
returns c = rw c.saturating_sub.ensures
