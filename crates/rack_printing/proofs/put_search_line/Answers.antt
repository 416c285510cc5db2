use native.Mathlib.Omega.{arith}
use mathlib.Core.Path.{◌∙◌}
use mathlib.Core.List.{[], ◌∷◌, ◌++◌}
use Prim.Native.Nat.{◌≤◌}
use lib.ListN.{length}
use Rattle.text.specs.Decimal.{decimal}
use Rattle.text.specs.Place.{last_place}
use Rattle.text.proofs.PlaceLaws.{behind}
use Rattle.rack_printing.specs.Text.{search_text}
use Rattle.rack_printing.proofs.TextLaws.{search_most, line_whole, line_stored_lem}
use Rattle.rack_printing.proofs.put_search_line.Goals as goal

pub returns : goal.returns
returns c =
    let end = c.put_mark in
    let a = c.args in
    let o = a.text.now in
    let head = decimal a.number ++ 0x09 ∷ [] in
    let x = search_text a.said in
    let n = c.put_head-answer in
    let w = c.put_found-end in
    let room : length o ≤ last_place = omega arith in
    let to_end = w.ensures ∙ behind o n.new.text head x 0 n.result room n.ensures in
    let e = end.ensures ∙ behind o w.new.text (head ++ x) (0x0A ∷ []) 0 w.result room to_end in
    let all = line_stored_lem o end.new.text x ((head ++ x) ++ 0x0A ∷ []) a.number end.result (omega (arith, search_most a.said)) (line_whole a.number x) e in
    record { value = all.0; text_after = all.1 }
