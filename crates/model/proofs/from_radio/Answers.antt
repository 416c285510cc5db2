use Rattle.model.specs.Step.{from_radio}
use Rattle.model.proofs.from_radio.Goals as goal

pub returns-in-None : goal.returns-in-None
unfolding from_radio
returns-in-None c = rw c.in-None.is

pub returns-in-Some : goal.returns-in-Some
unfolding from_radio
returns-in-Some c = rw c.in-Some.is
