use Rattle.parts.proofs.Picks.{picks}
use Rattle.rule_list.specs.RuleList.{first_says}
use Rattle.refusals.specs.Refusals.{judgement}
use Rattle.refusals.proofs.fresh_refusal.Goals as goal

pub returns-then-m-ne-MEMORY_BYTES : goal.returns-then-m-ne-MEMORY_BYTES
unfolding judgement first_says
returns-then-m-ne-MEMORY_BYTES c = search picks depth 20

pub returns : goal.returns
unfolding judgement first_says
returns c = search picks depth 20
