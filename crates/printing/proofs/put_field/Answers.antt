use native.Mathlib.Omega.{arith}
use mathlib.Core.Path.{◌≡◌, ap, ◌∙◌}
use mathlib.Core.List.{List, [], ◌∷◌}
use Prim.Native.Nat.{ℕ, ◌+◌, ◌≤◌, min}
use lib.ListN.{length}
use Rattle.text.specs.Place.{stored, last_place, text_at}
use Rattle.text.proofs.PlaceLaws.{behind}
use Rattle.rule_names.specs.Names.{name_at}
use Rattle.printing.proofs.TextLaws.{no_field, field_parts}
use Rattle.printing.proofs.put_field.Goals as goal

pub returns-then-rule-eq0 : goal.returns-then-rule-eq0
returns-then-rule-eq0 c =
    let a = c.args in
    let o = a.text.now in
    let n : a.at ≡ min (a.at + 0) last_place = omega arith in
    ap (λ (k : ℕ). stored k o) n ∙ ap (λ (l : List ℕ). text_at o a.at l) (no_field a.rule c.if-rule-eq0.true)

pub returns : goal.returns
returns c =
    let a = c.args in
    let o = a.text.now in
    let t = c.put_mark-name in
    let room : length o ≤ last_place = omega arith in
    c.put_name.ensures
    ∙ behind o t.new.text (0x09 ∷ []) (name_at a.rule) a.at t.result room t.ensures
    ∙ ap (λ (l : List ℕ). text_at o a.at l) (field_parts a.rule c.if-rule-eq0.false)
