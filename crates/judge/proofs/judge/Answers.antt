use Rattle.parts.specs.Pick.{pick}
use Rattle.parts.proofs.Picks.{picks}
use Rattle.judge.proofs.Muted.{muted, judge_muted}
use Rattle.judge.proofs.judge.Goals as goal

pub returns-then-is_silent : goal.returns-then-is_silent
returns-then-is_silent c =
    rw (judge_muted, ← c.is_silent.ensures) (search picks depth 20)

pub returns-in-Err : goal.returns-in-Err
unfolding muted pick
returns-in-Err c =
    rw (judge_muted, ← c.is_silent.ensures, c.if-is_silent.false, ← c.first_error.ensures, c.in-Err.is, c.error_of.ensures)

pub returns-in-Ok : goal.returns-in-Ok
unfolding muted pick
returns-in-Ok c =
    rw (judge_muted, ← c.is_silent.ensures, c.if-is_silent.false, ← c.first_error.ensures, c.in-Ok.is)
