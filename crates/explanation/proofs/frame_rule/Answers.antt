use borrow.Author.Tests.{eq-eqb, ne_eqb}
use Rattle.explanation.proofs.frame_rule.Goals as goal

pub returns-then-byte_at-eq1 : goal.returns-then-byte_at-eq1
returns-then-byte_at-eq1 c =
    c.inventory_rule.ensures (rw (← c.byte_at.ensures) (eq-eqb _ 1 c.if-byte_at-eq1.true)) c.args.m.now

pub returns : goal.returns
returns c =
    c.request_rule.ensures (rw (← c.byte_at.ensures) (ne_eqb _ 1 c.if-byte_at-eq1.false))
