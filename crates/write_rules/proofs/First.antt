-- The reason that is given is the first whose condition holds. Assumes nothing.
use Prim.{tt}
use mathlib.Core.Path.{◌≡◌}
use Prim.Native.Nat.{ℕ}
use native.Mathlib.Omega.{arith}
use Rattle.std.specs.Prelude.{⊤, Result, Ok, Err}
use Rattle.rule_list.proofs.First.{by_first, by_none}
use Rattle.write_reasons.specs.declared.WriteReason.{WriteReason}
use Rattle.write_rules.specs.Verdict.{forbids, reasons_in, write_verdict}
use Rattle.write_rules.specs.Claims.{ForbiddenByFirst, AllowedByNone}

own : (reason other : WriteReason) → ◌≡◌ {A = Result ⊤ WriteReason} (Err reason) (Err other) → reason ≡ other
own reason other e = cc

apart : (reason : WriteReason) → ◌≡◌ {A = Result ⊤ WriteReason} (Err reason) (Ok tt) → ⊥
apart reason e = let z : ◌≡◌ {A = ℕ} 0 1 = cc in absurd (omega arith)

pub forbidden_by_first : ForbiddenByFirst
unfolding write_verdict
forbidden_by_first z reason = by_first WriteReason (Result ⊤ WriteReason) (forbids z) Err (Ok tt) own apart (reasons_in z) reason

pub allowed_by_none : AllowedByNone
unfolding write_verdict
allowed_by_none z = by_none WriteReason (Result ⊤ WriteReason) (forbids z) Err (Ok tt) apart (reasons_in z)
