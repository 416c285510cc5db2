use Rattle.parts.proofs.Picks.{picks}
use Rattle.rule_list.specs.RuleList.{first_says}
use Rattle.row_rules.specs.RowErrors.{error_applies, first_applying}
use Rattle.row_errors.proofs.dynamic_error.Goals as goal

pub returns-then-param-ne-MB_CTRL_POINTER : goal.returns-then-param-ne-MB_CTRL_POINTER
unfolding first_says error_applies first_applying
returns-then-param-ne-MB_CTRL_POINTER c dynamic busy =
    rw (← c.param.ensures) (search picks depth 20)

pub returns : goal.returns
unfolding first_says error_applies first_applying
returns c dynamic busy =
    rw (← c.param.ensures) (search picks depth 20)
