use native.Mathlib.Omega.{arith}
use mathlib.Core.Path.{◌∙◌}
use mathlib.Core.List.{[], ◌∷◌}
use Prim.Native.Nat.{◌≤◌}
use lib.ListN.{length}
use Rattle.text.specs.Decimal.{decimal}
use Rattle.text.specs.Place.{last_place}
use Rattle.text.proofs.PlaceLaws.{behind}
use Rattle.rule_names.specs.Text.{key_text}
use Rattle.rule_names.proofs.Table.{nothing_stored}
use Rattle.rule_names.proofs.put_key.Goals as goal

pub returns-in-None : goal.returns-in-None
unfolding key_text
returns-in-None c = rw c.in-None.is (nothing_stored _ _ (omega arith))

pub returns-in-Some : goal.returns-in-Some
unfolding key_text
returns-in-Some c =
    let a = c.args in
    let o = a.text.now in
    let mark = c.put_mark-number in
    let room : length o ≤ last_place = omega arith in
    rw c.in-Some.is
    (c.put_decimal.ensures ∙ behind o mark.new.text (0x20 ∷ []) (decimal _) a.at mark.result room mark.ensures)
