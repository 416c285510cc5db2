use Rattle.refusals.specs.Refusals.{unless_refused}
use Rattle.rack_hear.specs.Hear.{hearing_of}
use Rattle.rack_hear.proofs.hearing.Goals as goal

pub returns-in-Err : goal.returns-in-Err
unfolding hearing_of unless_refused
returns-in-Err c = rw (c.hear_refused.ensures, c.in-Err.is)

pub returns-in-Ok : goal.returns-in-Ok
unfolding hearing_of unless_refused
returns-in-Ok c = rw (c.hear_start.ensures, c.in-Ok.is)
