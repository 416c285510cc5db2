use native.Mathlib.Omega.{arith}
use Rattle.keys.proofs.Same.{uid_eq}
use Rattle.rack_judge.proofs.same.Goals as goal

pub returns : goal.returns
returns c = rw (c.eq.ensures, uid_eq c.args.one c.args.other (omega arith) (omega arith))
