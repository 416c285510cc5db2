use Rattle.parts.proofs.Picks.{picks}
use Rattle.keys.specs.Keys.{radio_password}
use Rattle.keys.proofs.Passwords.radio.Goals as goal

pub returns-in-0 : goal.returns-in-0
unfolding radio_password
returns-in-0 c = search (picks, c.in-0.is) depth 20

pub returns-in-1 : goal.returns-in-1
unfolding radio_password
returns-in-1 c = search (picks, c.in-1.is) depth 20

pub returns-in-2 : goal.returns-in-2
unfolding radio_password
returns-in-2 c = search (picks, c.in-2.is) depth 20

pub returns-in_default : goal.returns-in_default
unfolding radio_password
returns-in_default c = search picks depth 20
