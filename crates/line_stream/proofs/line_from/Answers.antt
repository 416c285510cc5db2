use native.Mathlib.Nat.{sub-zero}
use Rattle.parts.proofs.Picks.{picks}
use Rattle.line_stream.proofs.line_from.Goals as goal

pub returns-then-n-eq0 : goal.returns-then-n-eq0
returns-then-n-eq0 c = search picks depth 20

pub returns : goal.returns
returns c = rw (sub-zero c.args.n) (search picks depth 20)
