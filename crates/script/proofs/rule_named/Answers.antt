use mathlib.Core.Path.{refl}
use Rattle.parts.proofs.Picks.{pick_true, pick_false}
use Rattle.script.proofs.rule_named.Goals as goal

pub returns-then-named : goal.returns-then-named
returns-then-named c = pick_true _ _ _ _ c.if-named.true c.rule_of.ensures

pub returns : goal.returns
returns c = pick_false _ _ _ _ c.if-named.false refl
