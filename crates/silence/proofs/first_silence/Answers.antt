use borrow.Author.Tests.{eq-eqb, ne_eqb}
use Rattle.parts.specs.Pick.{pick}
use Rattle.rule_list.proofs.Laws.{says_append, numbered_or}
use Rattle.silence_rules.specs.Silence.{silence_holds, silence_number, reception_silences, address_silences, request_silences, first_silence}
use Rattle.silence_rules.proofs.Numbers.{numbered}
use Rattle.silence.proofs.first_silence.Goals as goal

pub returns-then-rule-ne0 : goal.returns-then-rule-ne0
unfolding request_silences first_silence pick
returns-then-rule-ne0 c =
    let a = c.args in
    let holds = silence_holds a.f.now a.a a.u a.dynamic in
    rw (says_append holds silence_number 0 reception_silences address_silences, numbered_or holds silence_number numbered _ reception_silences, ← c.first_of_reception-rule.ensures a.u, ne_eqb _ 0 c.if-rule-ne0.true)

pub returns : goal.returns
unfolding request_silences first_silence pick
returns c =
    let a = c.args in
    let holds = silence_holds a.f.now a.a a.u a.dynamic in
    rw (says_append holds silence_number 0 reception_silences address_silences, numbered_or holds silence_number numbered _ reception_silences, ← c.first_of_reception-rule.ensures a.u, eq-eqb _ 0 c.if-rule-ne0.false) (c.first_of_address.ensures a.dynamic)
