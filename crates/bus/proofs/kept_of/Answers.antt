use mathlib.Core.Path.{◌∙◌}
use Rattle.bus.proofs.Transfers.{kept_or_new}
use Rattle.bus.proofs.kept_of.Goals as goal

pub returns : goal.returns
returns c = c.unwrap_or.ensures ∙ kept_or_new c.args.transfer c.args.dynamic
