use borrow.Author.Rules.{rules}
use native.Mathlib.Omega.{arith}
use mathlib.Core.Path.{◌≡◌, ap, ◌∙◌}
use mathlib.Core.List.{List, [], ◌∷◌, ◌++◌}
use Prim.Native.Nat.{ℕ, ◌-◌, ◌≤◌}
use lib.ListN.{length, length-append}
use Rattle.text.specs.Decimal.{decimal}
use Rattle.text.specs.Place.{Stored, stored, last_place, text_at}
use Rattle.text.proofs.DecimalLaws.{digits_most}
use Rattle.text.proofs.PlaceLaws.{behind}
use Rattle.printing.specs.Text.{answer_text, name_field, line_text}
use Rattle.printing.proofs.TextLaws.{length_line, answer_most, field_most, line_parts}
use Rattle.printing.proofs.put_line.Goals as goal

pub returns : goal.returns
returns c =
    let end = c.put_mark in
    let a = c.args in
    let o = a.text.now in
    let d = decimal a.number in
    let x = answer_text a.said a.out.now in
    let y = name_field a.rule in
    let n = c.put_decimal-tab in
    let t = c.put_mark-answer in
    let w = c.put_answer-field in
    let f = c.put_field-end in
    let room : length o ≤ last_place = omega arith in
    let to-tab = t.ensures ∙ behind o n.new.text d (0x09 ∷ []) 0 n.result room n.ensures in
    let to-answer = w.ensures ∙ behind o t.new.text (d ++ 0x09 ∷ []) x 0 t.result room to-tab in
    let to-field = f.ensures ∙ behind o w.new.text ((d ++ 0x09 ∷ []) ++ x) y 0 w.result room to-answer in
    let e : stored end.result end.new.text ≡ text_at o 0 (line_text a.number (x ++ y)) =
    end.ensures
    ∙ behind o f.new.text (((d ++ 0x09 ∷ []) ++ x) ++ y) (0x0A ∷ []) 0 f.result room to-field
    ∙ ap (λ (l : List ℕ). text_at o 0 l) (line_parts a.number x y) in
    let k : length a.out.now ≡ 643 = search rules in
    record { value = omega (arith, ap (λ (s : Stored). s.next) e, length_line a.number (x ++ y), length-append x y, digits_most 20 a.number, answer_most a.said a.out.now k, field_most a.rule); text_after = ap (λ (s : Stored). s.buffer) e }
