use Rattle.capi_rack.specs.RackInterface.{search_number}
use Rattle.capi_rack.proofs.search_number.Goals as goal

pub returns-in-Err : goal.returns-in-Err
unfolding search_number
returns-in-Err c = rw (c.number.ensures, c.in-Err.is)

pub returns-in-Ok-None : goal.returns-in-Ok-None
unfolding search_number
returns-in-Ok-None c = rw (c.in-Ok-None.is, rw c.in-Ok-None.is at c.in-Ok-None.field-0-is)

pub returns-in-Ok-Some : goal.returns-in-Ok-Some
unfolding search_number
returns-in-Ok-Some c = rw (c.in-Ok-Some.is, rw c.in-Ok-Some.is at c.in-Ok-Some.field-0-is)
