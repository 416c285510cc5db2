use Rattle.parts.specs.Pick.{pick}
use Rattle.parts.proofs.Picks.{picks}
use Rattle.keys.specs.Keys.{with_radio_password}
use Rattle.keys.proofs.Passwords.with_radio.Goals as goal

pub returns-in-0 : goal.returns-in-0
unfolding with_radio_password pick
returns-in-0 c = rw c.in-0.is

pub returns-in-1 : goal.returns-in-1
unfolding with_radio_password pick
returns-in-1 c = rw c.in-1.is

pub returns-in-2 : goal.returns-in-2
unfolding with_radio_password pick
returns-in-2 c = rw c.in-2.is

pub returns-in-3 : goal.returns-in-3
unfolding with_radio_password pick
returns-in-3 c = rw c.in-3.is

pub returns-in_default : goal.returns-in_default
unfolding with_radio_password
returns-in_default c = search picks depth 20
