use mathlib.Core.Path.{refl}
use Rattle.rack.specs.Rack.{to_all}
use Rattle.rack_judge.proofs.to_all.Goals as goal

-- src/lib.rt:106:1
pub returns : goal.returns
unfolding to_all
returns c = refl
