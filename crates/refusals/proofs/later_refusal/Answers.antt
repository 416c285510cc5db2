use Rattle.parts.proofs.Picks.{picks}
use Rattle.rule_list.specs.RuleList.{first_says}
use Rattle.refusals.specs.Refusals.{judgement}
use Rattle.refusals.proofs.later_refusal.Goals as goal

pub returns-then-not-in_range : goal.returns-then-not-in_range
unfolding judgement first_says
returns-then-not-in_range c = rw (← c.in_range.ensures) (search picks depth 20)

pub returns : goal.returns
unfolding judgement first_says
returns c = rw (← c.in_range.ensures) (search picks depth 20)
