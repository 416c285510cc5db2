use mathlib.Core.Path.{◌∙◌}
use Rattle.air.proofs.States.{eq_quiet}
use Rattle.air.proofs.is_quiet.Goals as goal

pub returns : goal.returns
returns c = c.eq.ensures ∙ eq_quiet c.args.x
