use native.Mathlib.Omega.{arith}
use mathlib.Core.Path.{◌∙◌}
use mathlib.Core.List.{[], ◌∷◌}
use Prim.Native.Nat.{◌≤◌}
use lib.ListN.{length}
use Rattle.text.specs.Decimal.{decimal}
use Rattle.text.specs.Place.{last_place}
use Rattle.text.proofs.PlaceLaws.{behind}
use Rattle.example_lines.proofs.put_number.Goals as goal

pub returns : goal.returns
returns c =
    let a = c.args in
    let n = c.put_decimal-tab in
    let o = a.text.now in
    let room : length o ≤ last_place = omega arith in
    c.put_mark.ensures ∙ behind o n.new.text (decimal a.number) (9 ∷ []) 0 n.result room n.ensures
