use Rattle.rule_list.specs.RuleList.{first_says}
use Rattle.row_rules.specs.RowErrors.{row_errors, first_applying}
use Rattle.row_errors.proofs.row_error.Goals as goal

pub returns-in-None : goal.returns-in-None
unfolding first_says first_applying row_errors
returns-in-None c dynamic busy = rw c.in-None.is

pub returns-in-Some : goal.returns-in-Some
unfolding row_errors
returns-in-Some c dynamic busy = rw c.in-Some.is (c.command_error.ensures dynamic busy)
