use native.Mathlib.Omega.{arith}
use mathlib.Core.Path.{◌≡◌, ap, ◌∙◌}
use mathlib.Core.List.{List, [], ◌∷◌}
use Prim.Native.Nat.{ℕ, ◌+◌, min}
use lib.ListN.{take, get_or}
use lib.Seq.{take_all}
use Rattle.hexadecimal.specs.Hex.{hex_text}
use Rattle.text.specs.Place.{stored, last_place, text_at}
use Rattle.hexadecimal.proofs.HexLaws.{hex_text_more}
use Rattle.text.proofs.PlaceLaws.{behind}
use Rattle.hexadecimal.proofs.hex_each.Goals as goal

pub loop-x-init : goal.loop-x-init
unfolding hex_text
loop-x-init c =
    let a = c.args in
    let e : a.at ≡ min (a.at + 0) last_place = omega arith in
    ap (λ (n : ℕ). stored n a.text.now) e

pub loop-x-preserved : goal.loop-x-preserved
loop-x-preserved c =
    let p = c.put_byte-to in
    let l = c.loop-x in
    let a = c.args in
    let s = a.s.now in
    p.ensures
    ∙ behind a.text.now l.text (hex_text (take l.x-index s)) (hex_text (get_or s l.x-index 0 ∷ [])) a.at l.to (omega arith) l.invariant
    ∙ ap (λ (t : List ℕ). text_at a.text.now a.at t) (hex_text_more s l.x-index (omega arith))

pub returns : goal.returns
returns c =
    let l = c.loop-x in
    let a = c.args in
    l.invariant ∙ ap (λ (t : List ℕ). text_at a.text.now a.at (hex_text t)) (take_all l.x-index a.s.now (omega arith))
