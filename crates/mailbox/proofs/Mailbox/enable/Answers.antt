use Rattle.register_types.proofs.Passed.{picks}
use Rattle.mailbox.specs.Mailbox.{enabled}
use Rattle.mailbox.proofs.Mailbox.enable.Goals as goal

pub returns-then-mode-vcc : goal.returns-then-mode-vcc
unfolding enabled
returns-then-mode-vcc c = search picks depth 20

pub returns : goal.returns
unfolding enabled
returns c = search picks depth 20
