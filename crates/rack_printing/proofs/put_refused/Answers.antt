use native.Mathlib.Omega.{arith}
use mathlib.Core.Path.{ap, ◌∙◌}
use mathlib.Core.List.{[], ◌∷◌}
use Prim.Native.Nat.{ℕ, ◌≤◌}
use lib.ListN.{length}
use Rattle.text.specs.Decimal.{decimal}
use Rattle.text.specs.Place.{last_place, text_at}
use Rattle.text.proofs.PlaceLaws.{behind}
use Rattle.rack_printing.specs.Text.{refused_text}
use Rattle.rack_printing.proofs.put_refused.Goals as goal

pub returns : goal.returns
unfolding refused_text
returns c =
    let a = c.args in
    let o = a.text.now in
    let n = c.number-n in
    let t = c.put_mark-digits in
    let room : length o ≤ last_place = omega arith in
    c.put_decimal.ensures
    ∙ behind o t.new.text (0x21 ∷ []) (decimal n.result) a.at t.result room t.ensures
    ∙ ap (λ (k : ℕ). text_at o a.at (0x21 ∷ decimal k)) n.ensures
