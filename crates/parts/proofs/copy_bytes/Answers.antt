use mathlib.Core.Path.{refl, ◌∙◌}
use native.Mathlib.Numerals.{add-one}
use Rattle.parts.specs.Bytes.{copied}
use Rattle.parts.proofs.copy_bytes.Goals as goal

pub loop-i-init : goal.loop-i-init
unfolding copied
loop-i-init c = refl

pub loop-i-preserved : goal.loop-i-preserved
unfolding copied
loop-i-preserved c =
    let l = c.loop-i in
    c.put_in.ensures ∙ rw (c.byte_in-b.ensures, l.invariant, add-one l.i)
