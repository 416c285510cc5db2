use Rattle.parts.proofs.Picks.{picks}
use Rattle.row_rules.specs.RowErrors.{more_blocks}
use Rattle.row_errors.proofs.more_blocks.Goals as goal

pub returns-then-c : goal.returns-then-c
unfolding more_blocks
returns-then-c c =
    rw (← c.command-c.ensures, c.param.ensures) (search picks depth 20)

pub returns : goal.returns
unfolding more_blocks
returns c =
    rw (← c.command-c.ensures) (search picks depth 20)
