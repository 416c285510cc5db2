use Rattle.parts.proofs.Picks.{picks}
use Rattle.rule_list.specs.RuleList.{first_says}
use Rattle.row_rules.specs.RowErrors.{error_applies, first_applying}
use Rattle.row_errors.proofs.write_message_error.Goals as goal

pub returns-then-not-takes_message : goal.returns-then-not-takes_message
unfolding first_says error_applies first_applying
returns-then-not-takes_message c dynamic busy =
    rw (← c.takes_message.ensures) (search picks depth 20)

pub returns : goal.returns
unfolding first_says error_applies first_applying
returns c dynamic busy =
    rw (← c.takes_message.ensures) (search picks depth 20)
