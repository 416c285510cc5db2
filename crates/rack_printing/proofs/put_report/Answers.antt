use borrow.Author.Rules.{rules}
use native.Mathlib.Omega.{arith}
use mathlib.Core.Path.{◌≡◌, refl, sym, ap, ◌∙◌}
use mathlib.Core.Bool.{Bool, false}
use mathlib.Core.List.{List, [], ◌∷◌}
use Prim.Native.Nat.{ℕ, ◌+◌, ◌-◌, ◌≤◌, min}
use lib.ListN.{length, drop, get_or, drop_of_length-le}
use Rattle.parts.specs.Pick.{pick}
use Rattle.text.specs.Decimal.{decimal}
use Rattle.text.specs.Place.{Stored, stored, last_place, text_at}
use Rattle.text.proofs.PlaceLaws.{behind}
use Rattle.rack.specs.Step.{numbers_from}
use Rattle.rack_printing.specs.Text.{numbers_text}
use Rattle.rack_printing.proofs.TextLaws.{report_more}
use Rattle.rack_printing.proofs.put_report.Goals as goal

pub loop-i-init : goal.loop-i-init
loop-i-init c = (refl, omega arith)

pub loop-i-preserved : goal.loop-i-preserved
loop-i-preserved c =
    let flags_here : length c.args.answered ≡ 16 = search rules in
    let l = c.loop-i in
    let a = c.args in
    let p = c.put_number-to in
    let k = flags_here in
    let one = get_or a.answered l.i false in
    let t = pick one (l.mark ∷ decimal l.i) [] in
    let rest = numbers_from (l.i + 1) (drop (l.i + 1) a.answered) in
    let room : length l.text ≤ last_place = omega arith in (
      ap (λ (m : ℕ). text_at p.new.text p.result (numbers_text m rest)) c.next_mark-mark.ensures
          ∙ behind l.text p.new.text t (numbers_text (pick one 0x2C l.mark) rest) l.to p.result room p.ensures
          ∙ ap (λ (s : List ℕ). text_at l.text l.to s) (sym (report_more a.answered l.i l.mark (omega arith)))
          ∙ l.invariant.0,
      omega (arith, ap (λ (s : Stored). s.next) p.ensures),
    )

pub returns : goal.returns
unfolding numbers_text numbers_from
returns c =
    let flags_here : length c.args.answered ≡ 16 = search rules in
    let l = c.loop-i in
    let a = c.args in
    let k = flags_here in
    let e : drop l.i a.answered ≡ [] = drop_of_length-le a.answered {i = l.i} (omega arith) in
    let n : l.to ≡ min (l.to + 0) last_place = omega arith in
    ap (λ (j : ℕ). stored j l.text) n
    ∙ sym (ap (λ (f : List Bool). text_at l.text l.to (numbers_text l.mark (numbers_from l.i f))) e)
    ∙ l.invariant.0
