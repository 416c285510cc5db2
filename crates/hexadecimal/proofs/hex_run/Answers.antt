use native.Mathlib.Omega.{arith}
use mathlib.Core.Path.{refl, ap, ◌∙◌}
use mathlib.Core.List.{List}
use Prim.Native.Nat.{ℕ}
use lib.Seq.{sets, take_all}
use Rattle.hexadecimal.specs.Hex.{hex_text}
use Rattle.hexadecimal.proofs.HexLaws.{hex_text_stored}
use Rattle.hexadecimal.proofs.hex_run.Goals as goal

pub loop-i-init : goal.loop-i-init
unfolding hex_text
loop-i-init c = refl

pub loop-i-preserved : goal.loop-i-preserved
loop-i-preserved c =
    let l = c.loop-i in
    let a = c.args in
    rw (c.hex_digit-in-loop-i.ensures, c.hex_digit.ensures, l.invariant) (hex_text_stored a.text.now a.s.now a.at l.i (omega arith))

pub returns : goal.returns
returns c =
    let l = c.loop-i in
    let a = c.args in
    l.invariant ∙ ap (λ (t : List ℕ). sets a.text.now a.at (hex_text t)) (take_all l.i a.s.now (omega arith))
