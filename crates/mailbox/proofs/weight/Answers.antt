use mathlib.Core.Path.{◌≡◌}
use mathlib.Core.Bool.{Bool, true, false}
use Prim.Native.Nat.{ℕ, ◌*◌}
use native.Mathlib.Omega.{arith}
use mir.Val.{bool_byte}
use Rattle.register_types.specs.Passed.{pick}
use Rattle.mailbox.specs.Mailbox.{weight}
use Rattle.mailbox.proofs.weight.Goals as goal

by_flag : (on : Bool) (n : ℕ) → bool_byte on * n ≡ weight on n
unfolding pick
by_flag true n = omega arith
by_flag false n = omega arith

pub returns-clause-value : goal.returns-clause-value
returns-clause-value c = rw c.from.ensures (by_flag c.args.on c.args.n)
