use mathlib.Core.Path.{◌∙◌}
use Rattle.air.proofs.States.{eq_selected}
use Rattle.air.proofs.is_selected.Goals as goal

pub returns : goal.returns
returns c = c.eq.ensures ∙ eq_selected c.args.x
