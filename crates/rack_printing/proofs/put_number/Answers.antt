use native.Mathlib.Omega.{arith}
use mathlib.Core.Path.{◌≡◌, refl, ap, ◌∙◌}
use mathlib.Core.List.{List, [], ◌∷◌}
use Prim.Native.Nat.{ℕ, ◌+◌, ◌≤◌, min}
use lib.ListN.{length}
use Rattle.parts.proofs.Picks.{pick_true, pick_false}
use Rattle.text.specs.Decimal.{decimal}
use Rattle.text.specs.Place.{stored, last_place, text_at}
use Rattle.text.proofs.PlaceLaws.{behind}
use Rattle.rack_printing.proofs.put_number.Goals as goal

pub returns-then-answered : goal.returns-then-answered
returns-then-answered c =
    let a = c.args in
    let o = a.text.now in
    let t = c.put_mark-digits in
    let room : length o ≤ last_place = omega arith in
    c.put_decimal.ensures
    ∙ behind o t.new.text (a.mark ∷ []) (decimal a.n) a.at t.result room t.ensures
    ∙ ap (λ (l : List ℕ). text_at o a.at l) (pick_true (a.mark ∷ decimal a.n) [] (a.mark ∷ decimal a.n) a.answered c.if-answered.true refl)

pub returns : goal.returns
returns c =
    let a = c.args in
    let o = a.text.now in
    let n : a.at ≡ min (a.at + 0) last_place = omega arith in
    ap (λ (k : ℕ). stored k o) n
    ∙ ap (λ (l : List ℕ). text_at o a.at l) (pick_false (a.mark ∷ decimal a.n) [] [] a.answered c.if-answered.false refl)
