use Rattle.state.specs.Layout.{radio_number}
use Rattle.state_encode.proofs.radio_number.Goals as goal

pub returns-in-Ready : goal.returns-in-Ready
unfolding radio_number
returns-in-Ready c = rw c.in-Ready.is

pub returns-in-Quiet : goal.returns-in-Quiet
unfolding radio_number
returns-in-Quiet c = rw c.in-Quiet.is

pub returns-in-Selected : goal.returns-in-Selected
unfolding radio_number
returns-in-Selected c = rw c.in-Selected.is
