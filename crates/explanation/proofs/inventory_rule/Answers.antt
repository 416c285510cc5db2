use borrow.Author.Tests.{eq-eqb, ne_eqb}
use Rattle.parts.specs.Pick.{pick}
use Rattle.explanation_rules.proofs.Frames.{inventory_number}
use Rattle.explanation.proofs.inventory_rule.Goals as goal

pub returns-then-silent-ne0 : goal.returns-then-silent-ne0
unfolding pick
returns-then-silent-ne0 c flagged m =
    let a = c.args in
    rw (inventory_number a.t m a.f.now flagged, ← c.transfer_at-transfer.ensures, ← c.counted_dynamic-dynamic.ensures, ← c.is_open_transfer.ensures, ← c.first_of_reception-silent.ensures a.t.uid, ne_eqb _ 0 c.if-silent-ne0.true)

pub returns-then-inventory_silent : goal.returns-then-inventory_silent
unfolding pick
returns-then-inventory_silent c flagged m =
    let a = c.args in
    rw (inventory_number a.t m a.f.now flagged, ← c.transfer_at-transfer.ensures, ← c.counted_dynamic-dynamic.ensures, ← c.is_open_transfer.ensures, ← c.first_of_reception-silent.ensures a.t.uid, eq-eqb _ 0 c.if-silent-ne0.false, ← c.inventory_silent.ensures, c.if-inventory_silent.true)

pub returns : goal.returns
unfolding pick
returns c flagged m =
    let a = c.args in
    rw (inventory_number a.t m a.f.now flagged, ← c.transfer_at-transfer.ensures, ← c.counted_dynamic-dynamic.ensures, ← c.is_open_transfer.ensures, ← c.first_of_reception-silent.ensures a.t.uid, eq-eqb _ 0 c.if-silent-ne0.false, ← c.inventory_silent.ensures, c.if-inventory_silent.false)
