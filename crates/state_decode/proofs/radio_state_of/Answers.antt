use Rattle.parts.proofs.Picks.{picks}
use Rattle.state.specs.Layout.{radio_state_of}
use Rattle.state_decode.proofs.radio_state_of.Goals as goal

pub returns-in-1 : goal.returns-in-1
unfolding radio_state_of
returns-in-1 c = search (picks, c.in-1.is) depth 20

pub returns-in-2 : goal.returns-in-2
unfolding radio_state_of
returns-in-2 c = search (picks, c.in-2.is) depth 20

pub returns-in_default : goal.returns-in_default
unfolding radio_state_of
returns-in_default c = search picks depth 20
