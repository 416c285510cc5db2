use borrow.Author.Tests.{eq-eqb, ne_eqb}
use Rattle.parts.specs.Pick.{pick}
use Rattle.radio.specs.Radio.{radio_of}
use Rattle.radio.proofs.radio.Goals as goal

pub returns-then-byte_at-eq1 : goal.returns-then-byte_at-eq1
unfolding radio_of pick
returns-then-byte_at-eq1 c =
    rw (← c.byte_at.ensures, eq-eqb _ 1 c.if-byte_at-eq1.true, ← c.counted_dynamic-d.ensures, ← c.is_open_transfer-open.ensures) c.inventory.ensures

pub returns : goal.returns
unfolding radio_of pick
returns c =
    rw (← c.byte_at.ensures, ne_eqb _ 1 c.if-byte_at-eq1.false) c.request.ensures
