use Rattle.parts.proofs.Picks.{picks}
use Rattle.rule_list.specs.RuleList.{first_says}
use Rattle.row_rules.specs.RowErrors.{error_applies, first_applying}
use Rattle.row_errors.proofs.read_error.Goals as goal

pub returns-then-first-ge-BLOCKS : goal.returns-then-first-ge-BLOCKS
unfolding first_says error_applies first_applying
returns-then-first-ge-BLOCKS c dynamic busy =
    rw (← c.param-first.ensures, ← c.more_blocks.ensures) (search picks depth 20)

pub returns-then-leaves_area : goal.returns-then-leaves_area
unfolding first_says error_applies first_applying
returns-then-leaves_area c dynamic busy =
    rw (← c.param-first.ensures, ← c.more_blocks.ensures, ← c.leaves_area.ensures) (search picks depth 20)

pub returns-then-not-may_read : goal.returns-then-not-may_read
unfolding first_says error_applies first_applying
returns-then-not-may_read c dynamic busy =
    rw (← c.param-first.ensures, ← c.more_blocks.ensures, ← c.leaves_area.ensures, ← c.may_read.ensures) (search picks depth 20)

pub returns : goal.returns
unfolding first_says error_applies first_applying
returns c dynamic busy =
    rw (← c.param-first.ensures, ← c.more_blocks.ensures, ← c.leaves_area.ensures, ← c.may_read.ensures) (search picks depth 20)
