use mathlib.Core.Path.{refl, sym, ap, ◌∙◌}
use Prim.Native.Nat.{ℕ, ◌+◌}
use native.Mathlib.Numerals.{add-one}
use lib.ListN.{get_or, set}
use lib.Seq.{sets}
use Rattle.parts.specs.Bytes.{bytes_at}
use Rattle.parts.proofs.Lists.{sets_snoc, length_bytes_at}
use Rattle.parts.proofs.put_run.Goals as goal

pub loop-i-init : goal.loop-i-init
unfolding bytes_at
loop-i-init c = refl

pub loop-i-preserved : goal.loop-i-preserved
unfolding bytes_at
loop-i-preserved c =
    let l = c.loop-i in
    let a = c.args in
    let r = bytes_at a.s.now a.from l.i in
    rw (l.invariant, add-one l.i)
    (ap (λ (k : ℕ). set (sets a.m.now a.at r) (a.at + k) (get_or a.s.now (a.from + l.i) 0)) (sym (length_bytes_at a.s.now a.from l.i))
    ∙ sym (sets_snoc r a.m.now a.at (get_or a.s.now (a.from + l.i) 0)))
