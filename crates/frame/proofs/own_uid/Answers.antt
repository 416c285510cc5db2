use native.Mathlib.Omega.{arith}
use Rattle.keys.proofs.Same.{uid_eq}
use Rattle.frame.specs.Fields.{own_uid}
use Rattle.frame.proofs.own_uid.Goals as goal

pub returns : goal.returns
unfolding own_uid
returns c =
    rw (c.eq.ensures, uid_eq c.at.result c.args.u (omega arith) (omega arith), c.at.ensures, c.uid_place.ensures.value)
