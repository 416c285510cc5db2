use borrow.Enum.Refused.{opened}
use native.Mathlib.Omega.{arith}
use mathlib.Core.Path.{◌≡◌, ap, ◌∙◌}
use mathlib.Core.List.{append-nil}
use Prim.Native.Nat.{◌≤◌}
use lib.ListN.{length}
use Rattle.text.specs.Place.{last_place}
use Rattle.text.proofs.PlaceLaws.{behind}
use Rattle.write_reasons.specs.Reasons.{reason_words}
use Rattle.rule_names.specs.Names.{string_bytes, name_at}
use Rattle.rule_names.specs.Text.{after_words, key_text, reason_text}
use Rattle.rule_names.proofs.Named.{reason_named}
use Rattle.rule_names.proofs.Reasons.{nothing_after}
use Rattle.rule_names.proofs.put_reason.Goals as goal

pub returns-in-SessionNeeded : goal.returns-in-SessionNeeded
unfolding reason_text after_words
returns-in-SessionNeeded c =
    let a = c.args in
    let o = a.text.now in
    let number = c.number in
    let name = c.put_name-end in
    let words : name_at number.result ≡ string_bytes (reason_words a.reason) = ap name_at number.ensures ∙ reason_named a.reason in
    let room : length o ≤ last_place = omega arith in
    rw (← words, c.in-SessionNeeded.is)
    (c.put_key.ensures ∙ behind o name.new.text (name_at number.result) (key_text _) a.at name.result room name.ensures)

pub returns-in_default : goal.returns-in_default
unfolding reason_text
returns-in_default c =
    let a = c.args in
    let number = c.number in
    let words : name_at number.result ≡ string_bytes (reason_words a.reason) = ap name_at number.ensures ∙ reason_named a.reason in
    rw (← words, nothing_after a.reason (opened c.in_default.in_default-own.keys2), append-nil) c.put_name-end.ensures
