use borrow.Enum.Refused.{opened}
use Rattle.password.specs.Claims.{password_error}
use Rattle.parts.specs.Pick.{pick}
use Rattle.password.proofs.ByVerdict.{closed}
use Rattle.password.proofs.password_error.Goals as goal

pub returns-in-OutsideMap : goal.returns-in-OutsideMap
unfolding password_error pick
returns-in-OutsideMap c = rw c.in-OutsideMap.is

pub returns-in_default : goal.returns-in_default
returns-in_default c = closed _ (opened c.in_default.in_default-own.keys2)
