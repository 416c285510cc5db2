-- What holds of a call that is not refused. Assumes nothing.
use mathlib.Core.Path.{◌≡◌}
use mathlib.Core.List.{List}
use Prim.Native.Nat.{ℕ}
use lib.ListN.{length}
use borrow.Author.Tests.{eqb-true, not-false}
use Rattle.std.specs.Prelude.{Ok}
use Rattle.parts.specs.Pick.{pick}
use Rattle.state.specs.Layout.{state_bytes}
use Rattle.rule_list.specs.RuleList.{first_says}
use Rattle.refusals.specs.declared.Refusal.TheVariants.{StateLength}
use Rattle.refusals.specs.Call.{Call}
use Rattle.refusals.specs.Refusals.{number, judgement}
use Rattle.refusals.proofs.Laws.{applies_of, not_refused}
use Rattle.library_refusals.specs.Rules.{step_rules, fresh_call_rules}

pub whole : (s m : List ℕ) (c : Call) → judgement (step_rules s m c) ≡ Ok tt → length s ≡ state_bytes
unfolding applies_of first_says number pick
whole s m c h = eqb-true _ _ (not-false _ (not_refused StateLength (step_rules s m c) h))

pub fresh_whole : (u m s : List ℕ) → judgement (fresh_call_rules u m s) ≡ Ok tt → length s ≡ state_bytes
unfolding applies_of first_says number pick
fresh_whole u m s h = eqb-true _ _ (not-false _ (not_refused StateLength (fresh_call_rules u m s) h))
