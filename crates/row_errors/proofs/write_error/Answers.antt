use Prim.Native.Nat.{◌+◌, ◌<◌}
use native.Mathlib.Omega.{arith}
use mathlib.Core.Path.{sym, ◌∙◌}
use Rattle.block_writes.proofs.Inside.{inside}
use Rattle.block_writes.proofs.ByVerdict.{writes_by_verdict}
use Rattle.parts.proofs.Picks.{picks}
use Rattle.rule_list.specs.RuleList.{first_says}
use Rattle.row_rules.specs.RowErrors.{error_applies, first_applying}
use Rattle.row_errors.proofs.write_error.Goals as goal

pub returns-then-more-gt3 : goal.returns-then-more-gt3
unfolding first_says error_applies first_applying
returns-then-more-gt3 c dynamic busy =
    rw (← c.param-first.ensures, ← c.more_blocks-more.ensures) (search picks depth 20)

pub returns-then-first-ge-BLOCKS : goal.returns-then-first-ge-BLOCKS
unfolding first_says error_applies first_applying
returns-then-first-ge-BLOCKS c dynamic busy =
    let low : c.more_blocks-more.result < 4 = omega (arith, c.if-more-gt3.false) in
    rw (← c.param-first.ensures, ← c.more_blocks-more.ensures) (search (picks, low) depth 20)

pub returns-then-leaves_area : goal.returns-then-leaves_area
unfolding first_says error_applies first_applying
returns-then-leaves_area c dynamic busy =
    let low : c.more_blocks-more.result < 4 = omega (arith, c.if-more-gt3.false) in
    rw (← c.param-first.ensures, ← c.more_blocks-more.ensures, ← c.leaves_area.ensures) (search (picks, low) depth 20)

pub returns-then-not-all_allowed : goal.returns-then-not-all_allowed
unfolding first_says error_applies first_applying
returns-then-not-all_allowed c dynamic busy =
    let low : c.more_blocks-more.result < 4 = omega (arith, c.if-more-gt3.false) in
    let v = c.args.v in
    let within = inside _ _ _ (sym c.leaves_area.ensures ∙ c.if-leaves_area.false) in
    let may =
    writes_by_verdict v.core v.air.session c.param-first.result (c.more_blocks-more.result + 1) (omega (arith, within)) ∙ sym c.all_allowed.ensures in
    rw (← c.param-first.ensures, ← c.more_blocks-more.ensures, ← c.leaves_area.ensures, may) (search (picks, low) depth 20)

pub returns : goal.returns
unfolding first_says error_applies first_applying
returns c dynamic busy =
    let low : c.more_blocks-more.result < 4 = omega (arith, c.if-more-gt3.false) in
    let v = c.args.v in
    let within = inside _ _ _ (sym c.leaves_area.ensures ∙ c.if-leaves_area.false) in
    let may =
    writes_by_verdict v.core v.air.session c.param-first.result (c.more_blocks-more.result + 1) (omega (arith, within)) ∙ sym c.all_allowed.ensures in
    rw (← c.param-first.ensures, ← c.more_blocks-more.ensures, ← c.leaves_area.ensures, may) (search (picks, low) depth 20)
