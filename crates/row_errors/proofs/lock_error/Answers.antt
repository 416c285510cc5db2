use Prim.Native.Nat.{◌<◌}
use native.Mathlib.Omega.{arith}
use Rattle.parts.proofs.Picks.{picks}
use Rattle.rule_list.specs.RuleList.{first_says}
use Rattle.row_rules.specs.RowErrors.{error_applies, first_applying}
use Rattle.row_errors.proofs.lock_error.Goals as goal

pub returns-then-block-gt1 : goal.returns-then-block-gt1
unfolding first_says error_applies first_applying
returns-then-block-gt1 c dynamic busy =
    rw (← c.param-block.ensures) (search picks depth 20)

pub returns-then-is_locked : goal.returns-then-is_locked
unfolding first_says error_applies first_applying
returns-then-is_locked c dynamic busy =
    let low : c.param-block.result < 2 = omega (arith, c.if-block-gt1.false) in
    rw (← c.param-block.ensures, ← c.is_locked.ensures) (search (picks, low) depth 20)

pub returns : goal.returns
unfolding first_says error_applies first_applying
returns c dynamic busy =
    let low : c.param-block.result < 2 = omega (arith, c.if-block-gt1.false) in
    rw (← c.param-block.ensures, ← c.is_locked.ensures) (search (picks, low) depth 20)
