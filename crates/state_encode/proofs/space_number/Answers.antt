use Rattle.state.specs.Layout.{space_number}
use Rattle.state_encode.proofs.space_number.Goals as goal

pub returns-in-User : goal.returns-in-User
unfolding space_number
returns-in-User c = rw c.in-User.is

pub returns-in-System : goal.returns-in-System
unfolding space_number
returns-in-System c = rw c.in-System.is
