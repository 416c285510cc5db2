use Rattle.inventory_reply.specs.Answers.{is_heard}
use Rattle.inventory_reply.proofs.is_heard.Goals as goal

pub returns-then-not-takes_part : goal.returns-then-not-takes_part
unfolding is_heard
returns-then-not-takes_part c =
    rw (← c.takes_part.ensures, c.if-not-takes_part.true)

pub returns-then-f : goal.returns-then-f
unfolding is_heard
returns-then-f c =
    rw (← c.takes_part.ensures, c.if-not-takes_part.false, c.if-f.true)

pub returns-then-not-is_good : goal.returns-then-not-is_good
unfolding is_heard
returns-then-not-is_good c =
    rw (← c.takes_part.ensures, c.if-not-takes_part.false, c.if-f.false, ← c.is_good.ensures, c.if-not-is_good.true)

pub returns : goal.returns
unfolding is_heard
returns c =
    rw (← c.takes_part.ensures, c.if-not-takes_part.false, c.if-f.false, ← c.is_good.ensures, c.if-not-is_good.false, c.is_malformed.ensures)
