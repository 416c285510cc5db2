use borrow.Author.Rules.{rules}
use native.Mathlib.Omega.{arith}
use mathlib.Core.Path.{◌≡◌, ◌∙◌}
use mathlib.Core.List.{[], ◌∷◌, ◌++◌}
use Prim.Native.Nat.{◌≤◌}
use lib.ListN.{length, length-append}
use Rattle.text.specs.Decimal.{decimal}
use Rattle.text.specs.Place.{last_place}
use Rattle.text.proofs.PlaceLaws.{behind}
use Rattle.printing.proofs.TextLaws.{line_parts}
use Rattle.rack.specs.Step.{numbers_from}
use Rattle.rack_printing.specs.Text.{said_text, report_text, rack_text}
use Rattle.rack_printing.proofs.TextLaws.{said_most, report_most, line_stored_lem}
use Rattle.rack_printing.proofs.put_rack_line.Goals as goal

pub returns : goal.returns
unfolding rack_text
returns c =
    let flags_here : length c.args.answered ≡ 16 = search rules in
    let end = c.put_mark in
    let a = c.args in
    let o = a.text.now in
    let head = decimal a.number ++ 0x09 ∷ [] in
    let x = said_text a.said a.out.now in
    let y = report_text (numbers_from 0 a.answered) in
    let n = c.put_head-answer in
    let w = c.put_said-report in
    let f = c.put_report-end in
    let room : length o ≤ last_place = omega arith in
    let k : length a.out.now ≡ 643 = search rules in
    let to-report = w.ensures ∙ behind o n.new.text head x 0 n.result room n.ensures in
    let to_end = f.ensures ∙ behind o w.new.text (head ++ x) y 0 w.result room to-report in
    let e = end.ensures ∙ behind o f.new.text ((head ++ x) ++ y) (0x0A ∷ []) 0 f.result room to_end in
    let all = line_stored_lem o end.new.text (x ++ y) (((head ++ x) ++ y) ++ 0x0A ∷ []) a.number end.result
    (omega (arith, length-append x y, said_most a.said a.out.now k, report_most a.answered flags_here))
    (line_parts a.number x y) e in
    record { value = all.0; text_after = all.1 }
