use mathlib.Core.Path.{refl, ap, ◌∙◌}
use mathlib.Core.List.{List}
use Prim.Native.Nat.{ℕ}
use lib.Pointwise.{pointwise}
use Rattle.std.proofs.Common.{nat_eq}
use Rattle.crc.proofs.Frames.{frame_compared, frame_short}
use Rattle.crc.proofs.is_good.Goals as goal

pub returns-in-Some : goal.returns-in-Some
returns-in-Some c =
    let p = c.in-Some.ensures.cases in
    let r = c.in-Some in
    c.eq.ensures
    ∙ ap (λ (t : List ℕ). pointwise nat_eq r.end.now t) c.to_le_bytes.ensures
    ∙ frame_compared c.args.s.now r.body.now r.end.now _ c.crc.result refl p.0 p.1 p.2 c.crc.type_inv c.crc.ensures

pub returns-in-None : goal.returns-in-None
returns-in-None c = frame_short c.args.s.now _ refl c.in-None.ensures.cases
