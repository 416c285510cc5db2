use mathlib.Core.Path.{ap, ◌∙◌}
use mathlib.Core.Bool.{not}
use Prim.Native.Nat.{◌<◌}
use Rattle.keys.proofs.Same.{password_eq}
use native.Mathlib.Omega.{arith}
use Rattle.parts.proofs.Picks.{picks}
use Rattle.rule_list.specs.RuleList.{first_says}
use Rattle.row_rules.specs.RowErrors.{error_applies, first_applying}
use Rattle.row_errors.proofs.present_error.Goals as goal

pub returns-then-n-gt3 : goal.returns-then-n-gt3
unfolding first_says error_applies first_applying
returns-then-n-gt3 c dynamic busy =
    rw (← c.param-n.ensures, ← c.param_place-at.ensures.value) (search picks depth 20)

pub returns-then-ne : goal.returns-then-ne
unfolding first_says error_applies first_applying
returns-then-ne c dynamic busy =
    let low : c.param-n.result < 4 = omega (arith, c.if-n-gt3.false) in
    rw (← c.param-n.ensures, ← c.param_place-at.ensures.value, ← rw (c.radio.ensures, c.at.ensures) at (c.ne.ensures ∙ ap not (password_eq c.radio.result c.at.result (omega arith) (omega arith)))) (search (picks, low) depth 20)

pub returns : goal.returns
unfolding first_says error_applies first_applying
returns c dynamic busy =
    let low : c.param-n.result < 4 = omega (arith, c.if-n-gt3.false) in
    rw (← c.param-n.ensures, ← c.param_place-at.ensures.value, ← rw (c.radio.ensures, c.at.ensures) at (c.ne.ensures ∙ ap not (password_eq c.radio.result c.at.result (omega arith) (omega arith)))) (search (picks, low) depth 20)
