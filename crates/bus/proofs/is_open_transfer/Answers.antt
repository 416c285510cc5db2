use mathlib.Core.Path.{◌∙◌}
use Rattle.bus.proofs.Transfers.{some_open}
use Rattle.bus.proofs.is_open_transfer.Goals as goal

pub returns : goal.returns
returns c = c.is_some.ensures ∙ some_open c.args.transfer
