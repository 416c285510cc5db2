use mathlib.Core.Path.{refl}
use mathlib.Core.Bool.{true}
use lib.Dec.{eqb}
use Rattle.parts.proofs.Bools.{or_second}
use borrow.Author.Tests.{lt-ltb, le-ltb}
use Rattle.parts.specs.Pick.{pick}
use Rattle.parts.proofs.Picks.{picks}
use Rattle.rule_list.specs.RuleList.{first_says}
use Rattle.refusals.specs.Refusals.{judgement}
use Rattle.rack_states.proofs.States.{tags_number}
use Rattle.library_rack_refusals.proofs.Sizes.{sizes_at}
use Rattle.library_rack_refusals.proofs.rack_bytes_refusal.Goals as goal

pub returns-then-m-n : goal.returns-then-m-n
unfolding judgement first_says
returns-then-m-n c =
    let a = c.args in
    rw (sizes_at a.number a.s.now) (search picks depth 20)

pub returns-then-out-lt-REPLY_BYTES : goal.returns-then-out-lt-REPLY_BYTES
unfolding judgement first_says
returns-then-out-lt-REPLY_BYTES c =
    let a = c.args in
    rw (sizes_at a.number a.s.now) (search picks depth 20)

pub returns-then-not-signal_in_range : goal.returns-then-not-signal_in_range
unfolding judgement first_says
returns-then-not-signal_in_range c =
    let a = c.args in
    rw (sizes_at a.number a.s.now, ← c.signal_in_range.ensures) (search picks depth 20)

pub returns-then-s-n : goal.returns-then-s-n
unfolding judgement first_says
returns-then-s-n c =
    let a = c.args in
    rw (sizes_at a.number a.s.now, ← c.signal_in_range.ensures) (search picks depth 20)

pub returns-then-not-all_decode : goal.returns-then-not-all_decode
unfolding judgement first_says
returns-then-not-all_decode c =
    let a = c.args in
    rw (sizes_at a.number a.s.now, ← c.all_decode.ensures, ← c.signal_in_range.ensures) (search picks depth 20)

pub returns-then-n-le-MOST_TAGS : goal.returns-then-n-le-MOST_TAGS
unfolding judgement first_says pick
returns-then-n-le-MOST_TAGS c =
    let a = c.args in
    rw (sizes_at a.number a.s.now, le-ltb 16 a.number c.if-n-le-MOST_TAGS.true, ← c.all_decode.ensures, ← c.signal_in_range.ensures) (search picks depth 20)

pub returns-then-not-all_in_range : goal.returns-then-not-all_in_range
unfolding judgement first_says pick
returns-then-not-all_in_range c =
    let a = c.args in
    rw (sizes_at a.number a.s.now, lt-ltb 16 a.number c.if-n-le-MOST_TAGS.false, ← c.all_in_range.ensures, ← c.all_decode.ensures, ← c.signal_in_range.ensures) (search picks depth 20)

pub returns : goal.returns
unfolding judgement first_says pick
returns c =
    let a = c.args in
    rw (sizes_at a.number a.s.now, tags_number a.number a.s.now, lt-ltb 16 a.number c.if-n-le-MOST_TAGS.false, or_second (eqb a.number 0) true refl, ← c.all_in_range.ensures, ← c.all_decode.ensures, ← c.signal_in_range.ensures) (search picks depth 20)
