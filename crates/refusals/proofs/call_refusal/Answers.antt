use Rattle.parts.proofs.Picks.{picks}
use Rattle.rule_list.specs.RuleList.{first_says}
use Rattle.refusals.specs.Refusals.{judgement}
use Rattle.refusals.proofs.call_refusal.Goals as goal

pub returns-then-m-ne-MEMORY_BYTES : goal.returns-then-m-ne-MEMORY_BYTES
unfolding judgement first_says
returns-then-m-ne-MEMORY_BYTES c = search picks depth 20

pub returns-then-out-lt-REPLY_BYTES : goal.returns-then-out-lt-REPLY_BYTES
unfolding judgement first_says
returns-then-out-lt-REPLY_BYTES c = search picks depth 20

pub returns-then-not-signal_in_range : goal.returns-then-not-signal_in_range
unfolding judgement first_says
returns-then-not-signal_in_range c = rw (← c.signal_in_range.ensures) (search picks depth 20)

pub returns : goal.returns
unfolding judgement first_says
returns c = rw (← c.signal_in_range.ensures) (search picks depth 20)
