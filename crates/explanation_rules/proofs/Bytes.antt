-- The number of the rule that explains the answer to a byte sent, as code finds it. Assumes nothing.
use Prim.{tt}
use mathlib.Core.Path.{◌≡◌, sym, ap, ◌∙◌}
use mathlib.Core.Bool.{Bool, not, ◌&&◌}
use mathlib.Core.List.{List}
use Prim.Native.Nat.{ℕ}
use Rattle.std.specs.Prelude.{None, Ok, Err}
use Rattle.parts.specs.Pick.{pick}
use Rattle.rule_list.specs.RuleList.{first_says}
use Rattle.rule_list.proofs.Laws.{says_through, says_map}
use Rattle.bus.specs.declared.Space.{Space}
use Rattle.bus.specs.declared.OpenTransfer.{OpenTransfer}
use Rattle.bus.specs.declared.Bus.{Bus}
use Rattle.bus.specs.declared.Bus.TheVariants.{DataLeg}
use Rattle.tag.specs.declared.Tag.{Tag}
use Rattle.select.specs.Select.{first_of}
use Rattle.signal_table.specs.declared.WireSignal.TheVariants.{Send}
use Rattle.signal_table.specs.declared.Signal.TheVariants.{Wire}
use Rattle.signal_table.specs.Table.{sent_byte}
use Rattle.write_reasons.specs.Asked.{asked_byte}
use Rattle.write_rules.specs.Situation.{Situation, situation_of}
use Rattle.write_rules.specs.Verdict.{forbids, write_reasons, session_key, write_verdict}
use Rattle.rule_names.specs.Rules.{byte_forbidden, rule_number}
use Rattle.explanation_rules.specs.Conditions.{is_idle, awaits_select, is_read_leg, is_select_byte, signal_byte, data_byte_in, rule_holds}
use Rattle.explanation_rules.specs.Explanation.{data_byte_rules, other_byte_rules, byte_rules, wire_rules, rules_for, explained_by, unexplained, explained, explained_number}
use Rattle.explanation_rules.specs.Numbers.{write_number}

module _ (t : Tag) (m : List ℕ) (x : ℕ) (f : List ℕ) where
  -- no data byte
  pub other_number : (b : Bus) → t.host.bus ≡ b → byte_rules b ≡ other_byte_rules
      → explained_number (explained t m (Wire (Send x)) f)
      ≡ pick (not t.host.vcc) 16 (pick (is_idle b) 17 (pick (is_read_leg b) 18 (pick (awaits_select b && not (is_select_byte x)) 19 (pick t.host.programming 20 0))))
  unfolding first_says explained explained_number rules_for wire_rules other_byte_rules rule_holds rule_number signal_byte sent_byte
  other_number b e h =
      says_through explained_number (rule_holds t m (Wire (Send x)) f) explained_by unexplained (byte_rules t.host.bus) ∙ rw (e, h)

  -- a data byte
  pub data_number : (kept : OpenTransfer) (space : Space) (count : ℕ) (spoiled : Bool) → t.host.bus ≡ DataLeg kept space count spoiled
      → explained_number (explained t m (Wire (Send x)) f)
      ≡ write_number (write_verdict (situation_of t.core m (asked_byte t.host.session spoiled space (first_of t.host.counter count) count x)))
  unfolding explained explained_number rules_for wire_rules byte_rules data_byte_rules data_byte_in rule_holds rule_number signal_byte sent_byte write_verdict session_key write_number
  data_number kept space count spoiled e =
      let holds = rule_holds t m (Wire (Send x)) f in
      let at : Bus → Situation = λ b. situation_of t.core m (data_byte_in b t.host x) in
      says_through explained_number holds explained_by unexplained (byte_rules t.host.bus)
      ∙ ap (λ (b : Bus). first_says holds rule_number 0 (byte_rules b)) e
      ∙ says_map byte_forbidden holds rule_number 0 (write_reasons None)
      ∙ sym (says_through write_number (forbids (at t.host.bus)) Err (Ok tt) (write_reasons None))
      ∙ ap (λ (b : Bus). write_number (first_says (forbids (at b)) Err (Ok tt) (write_reasons None))) e
