-- A byte sent is NoAcked exactly where a rule of its list holds. Assumes nothing.
use Prim.{tt}
use mathlib.Core.Path.{◌≡◌, refl, sym, ap, ◌∙◌}
use mathlib.Core.Bool.{Bool, true, false, not, ◌&&◌, ◌||◌}
use mathlib.Core.List.{List}
use Prim.Native.Nat.{ℕ}
use lib.Dec.{leb, eqb}
use Rattle.std.specs.Prelude.{⊤, None, Result, Ok, Err, is_ok}
use Rattle.parts.specs.Pick.{pick}
use Rattle.parts.proofs.Bools.{and_left, and_right}
use Rattle.rule_list.specs.RuleList.{any_holds, first_says}
use Rattle.rule_list.proofs.Laws.{any_says, says_through, says_map}
use Rattle.bus.specs.declared.Space.{Space}
use Rattle.bus.specs.declared.Space.TheVariants.{User, System}
use Rattle.bus.specs.declared.OpenTransfer.{OpenTransfer}
use Rattle.bus.specs.declared.Bus.{Bus}
use Rattle.bus.specs.declared.Bus.TheVariants.{Idle, Started, ReadLeg, WriteLeg, LowAddress, DataLeg}
use Rattle.bus.specs.Bus.{is_open_transfer, transfer_at, is_open, is_active, page_bytes}
use Rattle.tag.specs.declared.Host.{Host}
use Rattle.tag.specs.declared.Tag.{Tag}
use Rattle.tag.specs.Parts.{wire_side}
use Rattle.ranges.specs.Ranges.{supplied_in_range, transfer_in_range, host_in_range}
use Rattle.select.specs.declared.Choice.{Choice}
use Rattle.select.specs.declared.Choice.TheVariants.{NotAcked, Reading, Writing}
use Rattle.select.specs.Select.{select_of, choose, first_of}
use Rattle.rule.specs.Rule.{acked}
use Rattle.rule.proofs.Agree.{byte_agrees}
use Rattle.signal.specs.declared.WireAnswer.{WireAnswer}
use Rattle.signal.specs.declared.WireAnswer.TheVariants.{Nothing as WireNothing, Ack as WireAck, NoAck as WireNoAck, Byte as WireByte}
use Rattle.signal.specs.Signal.{WireResult}
use Rattle.signal_table.specs.declared.WireSignal.TheVariants.{Send}
use Rattle.signal_table.specs.declared.Signal.TheVariants.{Wire}
use Rattle.signal_table.specs.Table.{sent_byte}
use Rattle.data_byte.specs.DataByte.{data_of}
use Rattle.send.specs.Send.{select_by, send_at}
use Rattle.write_reasons.specs.declared.WriteReason.{WriteReason}
use Rattle.write_rules.specs.Situation.{Situation, situation_of}
use Rattle.write_rules.specs.Verdict.{forbids, write_reasons, session_key, write_verdict}
use Rattle.rule_names.specs.Rules.{Rule, byte_forbidden}
use Rattle.explanation_rules.specs.Conditions.{is_idle, awaits_select, is_read_leg, is_select_byte, signal_byte, data_byte_in, rule_holds}
use Rattle.explanation_rules.specs.Explanation.{data_byte_rules, other_byte_rules, byte_rules}

unfoldable pub is_no_ack : WireAnswer → Bool
is_no_ack WireNothing = false
is_no_ack WireAck = false
is_no_ack WireNoAck = true
is_no_ack (WireByte x) = false

-- ---- a select
sel : Choice → Bool
sel NotAcked = true
sel (Reading space) = false
sel (Writing space) = false

four : (a b c d : Bool) → sel (pick a (Writing User) (pick b (Reading User) (pick c (Writing System) (pick d (Reading System) NotAcked)))) ≡ not (a || b || c || d)
unfolding sel pick
four true b c d = refl
four false true c d = refl
four false false true d = refl
four false false false true = refl
four false false false false = refl

select_four : (x : ℕ) → sel (select_of x) ≡ not (is_select_byte x)
unfolding select_of is_select_byte
select_four x = four (eqb x 0xA6) (eqb x 0xA7) (eqb x 0xAE) (eqb x 0xAF)

chosen : (c : Choice) (kept : OpenTransfer) (t : Tag) (m : List ℕ) → is_no_ack (select_by c kept (wire_side t) m).answer ≡ sel c
unfolding sel is_no_ack select_by
chosen NotAcked kept t m = refl
chosen (Reading space) kept t m = refl
chosen (Writing space) kept t m = refl

choose_any : (vcc programming : Bool) (c : Choice) (s : Bool) → sel c ≡ not s
    → sel (pick (programming || not vcc) NotAcked c) ≡ (not vcc || (false || (false || ((true && not s) || (programming || false)))))
unfolding sel pick
choose_any true true c true h = refl
choose_any true true c false h = refl
choose_any true false c true h = h
choose_any true false c false h = h
choose_any false true c s h = refl
choose_any false false c s h = refl

-- ---- a data byte
forbidden_any : (z : Situation) → any_holds (forbids z) (write_reasons None) ≡ not (is_ok (first_says (forbids z) Err (Ok (tt {0})) (write_reasons None)))
forbidden_any z =
    any_says (forbids z) (write_reasons None) ∙ sym (says_through (λ (verdict : Result ⊤ WriteReason). not (is_ok verdict)) (forbids z) Err (Ok tt) (write_reasons None))

taken : (spoiled ack : Bool) (x y z : WireResult) → is_no_ack x.answer ≡ true → is_no_ack y.answer ≡ false → is_no_ack z.answer ≡ true
    → is_no_ack (pick spoiled x (pick ack y z)).answer ≡ not (not spoiled && ack)
unfolding pick
taken true ack x y z h k l = h
taken false true x y z h k l = k
taken false false x y z h k l = l

-- ---- every byte
second : (a r : Bool) → true ≡ (a || (true || r))
second true r = refl
second false r = refl

third : (a r : Bool) → true ≡ (a || (false || (true || r)))
third true r = refl
third false r = refl

none : (vcc programming : Bool) → vcc ≡ true → programming ≡ false → false ≡ (not vcc || (false || (false || (false || (programming || false)))))
none vcc programming h k = rw (h, k)

module _ (t : Tag) (m : List ℕ) (x : ℕ) (f : List ℕ) where
  abbrev holds : Rule → Bool
  holds = rule_holds t m (Wire (Send x)) f

  abbrev Says : Bus → Type 0
  Says b = is_no_ack (send_at b (wire_side t) m x).answer ≡ any_holds holds (byte_rules b)

  -- the list of a byte that is no data byte, with the bus in its place
  abbrev others : Bus → Bool
  others b = not t.host.vcc || (is_idle b || (is_read_leg b || ((awaits_select b && not (is_select_byte x)) || (t.host.programming || false))))

  data_says : (kept : OpenTransfer) (space : Space) (count : ℕ) (spoiled : Bool) → t.host.bus ≡ DataLeg kept space count spoiled → Says (DataLeg kept space count spoiled)
  unfolding send_at data_of is_no_ack byte_rules data_byte_rules data_byte_in rule_holds signal_byte sent_byte write_verdict session_key
  data_says kept space count spoiled e =
      let c = t.core in
      let first = first_of t.host.counter count in
      let at : Bus → Situation = λ b. situation_of c m (data_byte_in b t.host x) in
      let own : (b : Bus) → Bool = λ b. any_holds (forbids (at b)) (write_reasons None) in
      taken spoiled (acked space c t.host.session first count _ x) _ _ _ refl refl refl
      ∙ ap not (sym (byte_agrees space c t.host.session spoiled first count _ x))
      ∙ sym (forbidden_any (at (DataLeg kept space count spoiled)))
      ∙ ap own (sym e)
      ∙ any_says (forbids (at t.host.bus)) (write_reasons None)
      ∙ sym (says_map byte_forbidden holds (λ rule. true) false (write_reasons None))
      ∙ sym (any_says holds data_byte_rules)

  pub byte_says : (b : Bus) → t.host.bus ≡ b → (is_active b ≡ true → t.host.vcc ≡ true) → (is_open b ≡ true → t.host.programming ≡ false) → Says b
  unfolding any_holds send_at is_no_ack byte_rules other_byte_rules rule_holds is_idle is_read_leg awaits_select signal_byte sent_byte is_active is_open is_open_transfer transfer_at choose
  byte_says Idle e h k = second (not t.host.vcc) (t.host.programming || false) ∙ ap others (sym e)
  byte_says (Started transfer) e h k =
      chosen (choose t.host.vcc t.host.programming x) _ t m
      ∙ choose_any t.host.vcc t.host.programming (select_of x) (is_select_byte x) (select_four x)
      ∙ ap others (sym e)
  byte_says (ReadLeg kept space over last) e h k = third (not t.host.vcc) (t.host.programming || false) ∙ ap others (sym e)
  byte_says (WriteLeg kept space) e h k = none t.host.vcc t.host.programming (h refl) (k refl) ∙ ap others (sym e)
  byte_says (LowAddress kept space high) e h k = none t.host.vcc t.host.programming (h refl) (k refl) ∙ ap others (sym e)
  byte_says (DataLeg kept space count spoiled) e h k = data_says kept space count spoiled e

-- ---- the ranges: a bus that is active has VCC, and with a transfer open nothing is programmed
supplied : (vcc other active : Bool) → (vcc || not (other || active)) ≡ true → active ≡ true → vcc ≡ true
supplied true other active h k = refl
supplied false true active h k = h
supplied false false true h k = h
supplied false false false h k = k

pub has_vcc : (h : Host) (enabled : Bool) → supplied_in_range h enabled ≡ true → is_active h.bus ≡ true → h.vcc ≡ true
unfolding supplied_in_range
has_vcc h enabled f k = supplied h.vcc (enabled || h.session || h.programming) (is_active h.bus) f k

alone : (programming opened : Bool) → not (programming && opened) ≡ true → opened ≡ true → programming ≡ false
alone true true f k = sym f
alone true false f k = sym k
alone false opened f k = refl

pub not_programming : (h : Host) → host_in_range h ≡ true → is_open h.bus ≡ true → h.programming ≡ false
unfolding host_in_range
not_programming h f k =
    let page = leb (page_bytes h.bus) 256 in
    let apart = not (h.programming && is_open h.bus) in
    alone h.programming (is_open h.bus) (and_right page apart (and_left (page && apart) (transfer_in_range (transfer_at h.bus)) f)) k
