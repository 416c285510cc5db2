use mathlib.Core.Path.{ap, ◌∙◌}
use Rattle.bus.specs.Bus.{is_open, is_open_transfer}
use Rattle.bus.proofs.Transfers.{some_open}
use Rattle.bus.proofs.is_open.Goals as goal

pub returns : goal.returns
unfolding is_open
returns c = c.is_some.ensures ∙ some_open c.transfer_at.result ∙ ap is_open_transfer c.transfer_at.ensures
