use mathlib.Core.Path.{refl, sym, ap, ◌∙◌}
use Rattle.write_reasons.specs.declared.WriteAsked.{WriteAsked}
use Rattle.write_rules.specs.Situation.{situation_of}
use Rattle.write_rules.specs.Verdict.{write_verdict}
use Rattle.explanation_rules.specs.Numbers.{write_number}
use Rattle.explanation_rules.specs.Conditions.{is_idle, is_read_leg, awaits_select}
use Rattle.explanation_rules.specs.Explanation.{byte_rules}
use Rattle.explanation_rules.proofs.Bytes.{other_number, data_number}
use Rattle.explanation.proofs.sent_byte.Goals as goal

pub returns-in-Idle : goal.returns-in-Idle
unfolding is_idle is_read_leg awaits_select byte_rules
returns-in-Idle c f =
    let a = c.args in
    rw (other_number a.t a.m.now a.x f _ c.in-Idle.is refl) c.other_byte.ensures

pub returns-in-Started : goal.returns-in-Started
unfolding is_idle is_read_leg awaits_select byte_rules
returns-in-Started c f =
    let a = c.args in
    rw (other_number a.t a.m.now a.x f _ c.in-Started.is refl) c.other_byte-in-Started.ensures

pub returns-in-ReadLeg : goal.returns-in-ReadLeg
unfolding is_idle is_read_leg awaits_select byte_rules
returns-in-ReadLeg c f =
    let a = c.args in
    rw (other_number a.t a.m.now a.x f _ c.in-ReadLeg.is refl) c.other_byte-in-ReadLeg.ensures

pub returns-in-WriteLeg : goal.returns-in-WriteLeg
unfolding is_idle is_read_leg awaits_select byte_rules
returns-in-WriteLeg c f =
    let a = c.args in
    rw (other_number a.t a.m.now a.x f _ c.in-WriteLeg.is refl) c.other_byte-in-WriteLeg.ensures

pub returns-in-LowAddress : goal.returns-in-LowAddress
unfolding is_idle is_read_leg awaits_select byte_rules
returns-in-LowAddress c f =
    let a = c.args in
    rw (other_number a.t a.m.now a.x f _ c.in-LowAddress.is refl) c.other_byte-in-LowAddress.ensures

pub returns-in-DataLeg : goal.returns-in-DataLeg
returns-in-DataLeg c f =
    let a = c.args in
    c.write_number.ensures
    ∙ ap write_number (c.verdict.ensures ∙ ap (λ (q : WriteAsked). write_verdict (situation_of a.t.core a.m.now q)) c.asked_of-asked.ensures)
    ∙ sym (data_number a.t a.m.now a.x f _ _ _ _ c.in-DataLeg.is)
