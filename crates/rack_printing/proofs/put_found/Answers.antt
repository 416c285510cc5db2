use Rattle.rack_printing.specs.Text.{search_text}
use Rattle.rack_printing.proofs.put_found.Goals as goal

pub returns-in-Err : goal.returns-in-Err
unfolding search_text
returns-in-Err c =
    rw c.in-Err.is c.put_refused.ensures

pub returns-in-Ok-None : goal.returns-in-Ok-None
unfolding search_text
returns-in-Ok-None c =
    rw (c.in-Ok-None.is, rw c.in-Ok-None.is at c.in-Ok-None.field-0-is) c.put_mark.ensures

pub returns-in-Ok-Some : goal.returns-in-Ok-Some
unfolding search_text
returns-in-Ok-Some c =
    rw (c.in-Ok-Some.is, rw c.in-Ok-Some.is at c.in-Ok-Some.field-0-is) c.put_decimal.ensures
