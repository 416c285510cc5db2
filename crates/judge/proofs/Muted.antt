-- The judge's verdict from the first error: on it a Stay Quiet, or a Select of another UID, is silent. Assumes nothing.
use mathlib.Core.Path.{◌≡◌}
use mathlib.Core.Bool.{Bool}
use mathlib.Core.List.{List}
use Prim.Native.Nat.{ℕ}
use Rattle.std.specs.Prelude.{Result, Ok, Err}
use Rattle.parts.specs.Pick.{pick}
use Rattle.rule_list.proofs.Laws.{says_through}
use Rattle.register_types.specs.declared.RfMngt.{RfMngt}
use Rattle.air.specs.declared.Air.{Air}
use Rattle.keys.specs.declared.Uid.{Uid}
use Rattle.errors.specs.declared.RadioError.{RadioError}
use Rattle.silence_rules.specs.Silence.{is_silent}
use Rattle.judge.specs.declared.Verdict.{Verdict}
use Rattle.judge.specs.declared.Verdict.TheVariants.{Silence, Request}
use Rattle.judge.specs.Judge.{error_of, error_holds, rule_error, error_rules, first_error, judge}

unfoldable pub muted : List ℕ → Uid → Result (Unit {0}) RadioError → Verdict
muted f u (Ok w) = Request
muted f u (Err error) = error_of f u error

pub judge_muted : (f : List ℕ) (a : Air) (u : Uid) (dynamic : RfMngt) (busy : Bool)
    → judge f a u dynamic busy ≡ pick (is_silent f a u dynamic) Silence (muted f u (first_error f dynamic busy))
unfolding judge first_error muted
judge_muted f a u dynamic busy = rw (says_through (muted f u) (error_holds f dynamic busy) (λ rule. Err (rule_error rule)) (Ok tt) error_rules)
