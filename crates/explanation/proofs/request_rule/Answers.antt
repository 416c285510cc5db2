use Rattle.std.proofs.Common.{rules}
use borrow.Author.Tests.{eq-eqb, ne_eqb}
use Rattle.parts.specs.Pick.{pick}
use Rattle.explanation_rules.proofs.Frames.{frame_number}
use Rattle.explanation_rules.specs.Numbers.{found_number}
use Rattle.explanation.proofs.request_rule.Goals as goal

pub returns-then-silent-ne0 : goal.returns-then-silent-ne0
unfolding pick
returns-then-silent-ne0 c plain =
    let a = c.args in
    rw (frame_number a.t a.m.now a.f.now plain, ← c.transfer_at-transfer.ensures, ← c.counted_dynamic-dynamic.ensures, ← c.is_open_transfer.ensures, ← c.first_silence-silent.ensures, ne_eqb _ 0 c.if-silent-ne0.true)

pub returns-then-is_mute : goal.returns-then-is_mute
unfolding pick
returns-then-is_mute c plain =
    let a = c.args in
    rw (frame_number a.t a.m.now a.f.now plain, ← c.transfer_at-transfer.ensures, ← c.counted_dynamic-dynamic.ensures, ← c.is_open_transfer.ensures, ← c.first_silence-silent.ensures, eq-eqb _ 0 c.if-silent-ne0.false, ← c.is_mute.ensures, c.if-is_mute.true)

pub returns : goal.returns
unfolding pick found_number
returns c plain =
    let a = c.args in
    rw (frame_number a.t a.m.now a.f.now plain, ← c.transfer_at-transfer.ensures, ← c.counted_dynamic-dynamic.ensures, ← c.is_open_transfer.ensures, ← c.first_silence-silent.ensures, eq-eqb _ 0 c.if-silent-ne0.false, ← c.is_mute.ensures, c.if-is_mute.false, ← c.frame_error.ensures) (search rules)
