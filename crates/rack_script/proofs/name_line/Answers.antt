use Rattle.rack_script.specs.Script.{name_answered}
use Rattle.rack_script.proofs.name_line.Goals as goal

pub returns : goal.returns
unfolding name_answered
returns c = c.none_line.ensures
