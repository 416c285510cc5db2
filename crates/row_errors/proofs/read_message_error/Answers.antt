use Rattle.parts.proofs.Picks.{picks}
use Rattle.rule_list.specs.RuleList.{first_says}
use Rattle.row_rules.specs.RowErrors.{error_applies, first_applying}
use Rattle.row_errors.proofs.read_message_error.Goals as goal

pub returns-then-not-mailbox : goal.returns-then-not-mailbox
unfolding first_says error_applies first_applying
returns-then-not-mailbox c dynamic busy =
    rw (← c.param-pointer.ensures, ← c.param.ensures, ← c.asked.ensures) (search picks depth 20)

pub returns-then-mailbox-end : goal.returns-then-mailbox-end
unfolding first_says error_applies first_applying
returns-then-mailbox-end c dynamic busy =
    rw (← c.param-pointer.ensures, ← c.param.ensures, ← c.asked.ensures) (search picks depth 20)

pub returns : goal.returns
unfolding first_says error_applies first_applying
returns c dynamic busy =
    rw (← c.param-pointer.ensures, ← c.param.ensures, ← c.asked.ensures) (search picks depth 20)
