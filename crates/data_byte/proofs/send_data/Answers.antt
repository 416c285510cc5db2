use mathlib.Core.Path.{◌∙◌}
use native.Mathlib.Omega.{arith}
use native.Mathlib.Numerals.{add-one}
use Rattle.data_byte.proofs.Data.{judged, room, taken, in_spoiled, spoils}
use Rattle.data_byte.proofs.send_data.Goals as goal

pub overflow_add-count : goal.overflow_add-count
overflow_add-count c =
    let a = c.args in
    let j = judged a.kept a.space a.k a.spoiled a.w a.m.now a.x _ _ _ c.asked_of.ensures c.verdict-verdict.ensures c.is_ok.ensures.value ∙ c.if-is_ok.true in
    omega (arith, room a.kept a.space a.k a.spoiled a.w a.m.now a.x j)

pub returns-then-is_ok : goal.returns-then-is_ok
returns-then-is_ok c =
    let a = c.args in
    let j = judged a.kept a.space a.k a.spoiled a.w a.m.now a.x _ _ _ c.asked_of.ensures c.verdict-verdict.ensures c.is_ok.ensures.value ∙ c.if-is_ok.true in
    rw (c.with_line.ensures, c.next_address-next.ensures, c.put_in.ensures, add-one a.k) (taken a.kept a.space a.k a.spoiled a.w a.m.now a.x j)

pub returns-then-spoiled : goal.returns-then-spoiled
returns-then-spoiled c =
    let a = c.args in
    rw c.no_ack.ensures (in_spoiled a.kept a.space a.k a.spoiled a.w a.m.now a.x c.if-spoiled.true)

pub returns : goal.returns
returns c =
    let a = c.args in
    let j = judged a.kept a.space a.k a.spoiled a.w a.m.now a.x _ _ _ c.asked_of.ensures c.verdict-verdict.ensures c.is_ok.ensures.value ∙ c.if-is_ok.false in
    rw (c.no_ack-2.ensures, c.with_bus.ensures) (spoils a.kept a.space a.k a.spoiled a.w a.m.now a.x j c.if-spoiled.false)
