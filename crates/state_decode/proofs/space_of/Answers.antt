use Rattle.parts.proofs.Picks.{picks}
use Rattle.state.specs.Layout.{space_of}
use Rattle.state_decode.proofs.space_of.Goals as goal

pub returns-in-1 : goal.returns-in-1
unfolding space_of
returns-in-1 c = search (picks, c.in-1.is) depth 20

pub returns-in_default : goal.returns-in_default
unfolding space_of
returns-in_default c = search picks depth 20
