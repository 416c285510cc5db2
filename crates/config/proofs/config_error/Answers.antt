use borrow.Enum.Refused.{opened}
use Rattle.config.specs.Claims.{config_error}
use Rattle.parts.specs.Pick.{pick}
use Rattle.config.proofs.ByVerdict.{closed}
use Rattle.config.proofs.config_error.Goals as goal

pub returns-in-OutsideMap : goal.returns-in-OutsideMap
unfolding config_error pick
returns-in-OutsideMap c = rw c.in-OutsideMap.is

pub returns-in-EndaRule : goal.returns-in-EndaRule
unfolding config_error pick
returns-in-EndaRule c = rw c.in-EndaRule.is

pub returns-in_default : goal.returns-in_default
returns-in_default c = closed _ (opened c.in_default.in_default-own.keys3)
