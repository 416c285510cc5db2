use native.Mathlib.Omega.{arith}
use Rattle.parts.proofs.Picks.{picks, pick_not_lt}
use Rattle.hexadecimal.specs.Hex.{hex_digit}
use Rattle.hexadecimal.proofs.hex_digit.Goals as goal

pub returns-then-n-lt10 : goal.returns-then-n-lt10
unfolding hex_digit
returns-then-n-lt10 c = search picks depth 20

pub returns-else-n-lt10 : goal.returns-else-n-lt10
unfolding hex_digit
returns-else-n-lt10 c = pick_not_lt _ _ _ c.args.n 10 c.if-n-lt10.false (omega arith)
