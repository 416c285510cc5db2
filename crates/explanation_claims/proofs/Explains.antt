-- Every answer that is to be explained is, by the first rule that holds. Assumes nothing.
use mathlib.Core.Path.{◌≡◌, refl, sym, ap, subst, ◌∙◌}
use mathlib.Core.Bool.{Bool, true, false, not}
use mathlib.Core.List.{List, [], ◌∷◌}
use Prim.Native.Nat.{ℕ, ◌-◌, ◌<◌, ◌≤◌}
use native.Mathlib.Omega.{arith}
use lib.Dec.{eqb}
use lib.ListN.{length, take, get_or, set}
use lib.Seq.{get_or-set_same, length-sets}
use Rattle.std.specs.Prelude.{None}
use Rattle.parts.specs.Pick.{pick}
use Rattle.parts.proofs.Picks.{pick_case, pick_same}
use Rattle.parts.proofs.Lists.{get_d_sets_before}
use Rattle.rule_list.specs.RuleList.{any_holds, first_says}
use Rattle.rule_list.proofs.Laws.{any_says, says_through, says_map}
use Rattle.crc.specs.Crc.{crc_bytes, closed_at}
use Rattle.bus.specs.declared.Bus.{Bus}
use Rattle.bus.specs.declared.Bus.TheVariants.{Idle, Started, ReadLeg, WriteLeg, LowAddress, DataLeg}
use Rattle.bus.specs.Bus.{transfer_at}
use Rattle.tag.specs.declared.Tag.{Tag}
use Rattle.tag.specs.Parts.{wire_side}
use Rattle.refusals.specs.Refusals.{tag_in_range}
use Rattle.refusals.proofs.Ranges.{range_parts}
use Rattle.signal.specs.declared.WireAnswer.{WireAnswer}
use Rattle.signal.specs.declared.WireAnswer.TheVariants.{Nothing as WireNothing, Ack as WireAck, NoAck as WireNoAck, Byte as WireByte}
use Rattle.signal.specs.Signal.{WireResult, start_at, start_of, stop_at}
use Rattle.signal_table.specs.declared.WireSignal.{WireSignal}
use Rattle.signal_table.specs.declared.WireSignal.TheVariants.{Start, Send, Fetch, Stop, Vcc, ProgrammingEnd}
use Rattle.signal_table.specs.declared.Signal.{Signal}
use Rattle.signal_table.specs.declared.Signal.TheVariants.{Wire, Field, Frame, EndOfFrame}
use Rattle.signal_table.specs.Table.{signal_by}
use Rattle.wire.specs.Wire.{fetch_at, signal_of}
use Rattle.errors.specs.declared.RadioError.{RadioError}
use Rattle.errors.specs.declared.RadioError.TheVariants.{ShutOut, UnknownCommand, UnsupportedFlags, WrongLength, NoSuchBlock, ReadLeavesArea, ReadProtected, TooManyBlocks, WriteLeavesArea, WriteForbidden, NotLockable, AlreadyLocked, NoSuchRegister, ConfigurationClosed, EndRefused, NoSuchDynamicRegister, MailboxUnavailable, MailboxDisabled, PastMessage, NoSuchPassword, WrongPassword, PasswordSessionClosed}
use Rattle.errors.specs.Errors.{error_code}
use Rattle.reply.specs.declared.RadioSide.{RadioSide}
use Rattle.reply.specs.Reply.{ReplyBody, nothing, body, good, fault, answer_of, buffer_of}
use Rattle.reply.specs.Outcome.{CommandResult, command_result, with_air, radio_side}
use Rattle.air.specs.Parts.{with_slots}
use Rattle.inventory_reply.proofs.Laws.{end_case}
use Rattle.radio.specs.Radio.{radio_of, next_slot_of}
use Rattle.radio.proofs.EveryCommand.{Shape, silent as shape-silent, served as shape-served, failed as shape-failed}
use Rattle.radio_claims.proofs.Entry.{first_byte}
use Rattle.radio_claims.proofs.Errors.{frame_leaves}
use Rattle.model.specs.Step.{StepResult, from_wire, from_radio, act_of}
use Rattle.model.proofs.Acts.{room_of, range_of, acts}
use Rattle.write_rules.specs.Verdict.{write_reasons}
use Rattle.rule_names.specs.Rules.{Rule, byte_forbidden, noVcc, noStart, inReadLeg, otherSelectByte, programmingNow, silent, inventory_silence, own_silence, failed}
use Rattle.explanation_rules.specs.Conditions.{rule_holds}
use Rattle.explanation_rules.specs.Explanation.{frame_rules, data_byte_rules, other_byte_rules, byte_rules, wire_rules, rules_for, unexplained, explained_by, explained}
use Rattle.explanation_claims.specs.Claims.{is_frame, asks_rule, code_in, is_explained, rule_code, explained_code, Explanation, Explains}
use Rattle.explanation_claims.proofs.Laws.{same_says, explained_any, explained_first}
use Rattle.explanation_claims.proofs.Sent.{is_no_ack, byte_says, has_vcc, not_programming}
use Rattle.row_rules.specs.Claims.{Said, hushed, spoke, said_of}
use Rattle.explanation_claims.proofs.Framed.{rule_said, frame_says}

-- ---- what is said, as the claim asks for it
asks_said : Said → Bool
asks_said hushed = true
asks_said (spoke n) = not (eqb n 0)

code_said : Said → ℕ
code_said hushed = 0
code_said (spoke n) = n

has_code : (error : RadioError) → not (eqb (error_code error) 0) ≡ true
has_code ShutOut = refl
has_code UnknownCommand = refl
has_code UnsupportedFlags = refl
has_code WrongLength = refl
has_code NoSuchBlock = refl
has_code ReadLeavesArea = refl
has_code ReadProtected = refl
has_code TooManyBlocks = refl
has_code WriteLeavesArea = refl
has_code WriteForbidden = refl
has_code NotLockable = refl
has_code AlreadyLocked = refl
has_code NoSuchRegister = refl
has_code ConfigurationClosed = refl
has_code EndRefused = refl
has_code NoSuchDynamicRegister = refl
has_code MailboxUnavailable = refl
has_code MailboxDisabled = refl
has_code PastMessage = refl
has_code NoSuchPassword = refl
has_code WrongPassword = refl
has_code PasswordSessionClosed = refl

rule_asks : (rule : Rule) → asks_said (rule_said rule) ≡ true
unfolding asks_said rule_said
rule_asks (byte_forbidden reason) = refl
rule_asks noVcc = refl
rule_asks noStart = refl
rule_asks inReadLeg = refl
rule_asks otherSelectByte = refl
rule_asks programmingNow = refl
rule_asks (silent rule) = refl
rule_asks inventory_silence = refl
rule_asks own_silence = refl
rule_asks (failed error) = has_code error

rule_code_lem : (rule : Rule) → code_said (rule_said rule) ≡ rule_code rule
unfolding code_said rule_said rule_code
rule_code_lem (byte_forbidden reason) = refl
rule_code_lem noVcc = refl
rule_code_lem noStart = refl
rule_code_lem inReadLeg = refl
rule_code_lem otherSelectByte = refl
rule_code_lem programmingNow = refl
rule_code_lem (silent rule) = refl
rule_code_lem inventory_silence = refl
rule_code_lem own_silence = refl
rule_code_lem (failed error) = refl

-- of a list, when each rule says the same
pointwise : {A : Type 0} (holds : Rule → Bool) (says other : Rule → A) (last : A) → ((rule : Rule) → says rule ≡ other rule) → (rs : List Rule)
    → first_says holds says last rs ≡ first_says holds other last rs
unfolding first_says
pointwise holds says other last h [] = refl
pointwise {A = A} holds says other last h (r ∷ rs) = ap (λ (x : A). pick (holds r) x (first_says holds says last rs)) (h r) ∙ ap (pick (holds r) (other r)) (pointwise holds says other last h rs)

module _ (holds : Rule → Bool) (rs : List Rule) where
  list_asks : is_explained (first_says holds explained_by unexplained rs) ≡ asks_said (first_says holds rule_said (spoke 0) rs)
  unfolding asks_said
  list_asks =
      explained_any holds rs ∙ any_says holds rs
      ∙ sym (pointwise holds (λ rule. asks_said (rule_said rule)) (λ rule. true) false rule_asks rs)
      ∙ sym (says_through asks_said holds rule_said (spoke 0) rs)

  list_code : explained_code (first_says holds explained_by unexplained rs) ≡ code_said (first_says holds rule_said (spoke 0) rs)
  unfolding code_said explained_code
  list_code =
      says_through explained_code holds explained_by unexplained rs
      ∙ sym (pointwise holds (λ rule. code_said (rule_said rule)) rule_code 0 rule_code_lem rs)
      ∙ sym (says_through code_said holds rule_said (spoke 0) rs)

-- ---- a reply in the buffer
-- an error's code stands second
second_byte : (n : ℕ) (o : List ℕ) → 1 < length o → get_or (buffer_of (body (0x01 ∷ n ∷ [])) o) 1 0 ≡ n
unfolding buffer_of closed_at
second_byte n o h =
    let one = set o 0 0x01 in
    let stored = set one 1 n in
    let kept : get_or stored 1 0 ≡ n = get_or-set_same one 1 n 0 (omega (arith, h, length-sets o 0 (0x01 ∷ []))) in
    pick_case (λ (l : List ℕ). get_or l 1 0 ≡ n) _ _ _ (λ k. get_d_sets_before (crc_bytes (take 2 stored)) stored 2 1 (omega arith) ∙ kept) (λ k. kept)

record Told (reply : ReplyBody) (o : List ℕ) : Type 0 where
  asks : asks_rule Frame (from_radio (answer_of reply)) (buffer_of reply o) ≡ asks_said (said_of reply)
  code : code_in (from_radio (answer_of reply)) (buffer_of reply o) ≡ code_said (said_of reply)

told_good : (s o : List ℕ) → 1 < length o → Told (good s) o
unfolding asks_rule code_in from_radio answer_of asks_said code_said said_of pick
told_good s o h = let e = first_byte 0 s o (omega arith) in record { asks = rw e; code = rw e }

told_fault : (error : RadioError) (o : List ℕ) → 1 < length o → Told (fault error) o
unfolding asks_rule code_in from_radio answer_of asks_said code_said said_of pick
told_fault error o h =
    let e = first_byte 1 (error_code error ∷ []) o (omega arith) in
    let k = second_byte (error_code error) o h in
    record { asks = rw e (sym (has_code error)); code = rw (e, k) }

told_nothing : (o : List ℕ) → Told nothing o
unfolding asks_rule is_frame code_in from_radio answer_of asks_said code_said said_of
told_nothing o = record { asks = refl; code = refl }

told : (after : RadioSide) (m : List ℕ) (x : CommandResult) (o : List ℕ) → 1 < length o → Shape after m x → Told x.reply o
told after m x o h (shape-silent e) = subst (λ (reply : ReplyBody). Told reply o) (sym e) (told_nothing o)
told after m x o h (shape-served s e) = subst (λ (reply : ReplyBody). Told reply o) (sym e) (told_good s o h)
told after m x o h (shape-failed error e) = subst (λ (reply : ReplyBody). Told reply o) (sym (ap (λ (y : CommandResult). y.reply) e)) (told_fault error o h)

-- ---- the signals
wire_asks : (signal : WireSignal) (answer : WireAnswer) (o : List ℕ) → asks_rule (Wire signal) (from_wire answer) o ≡ is_no_ack answer
unfolding asks_rule from_wire is_no_ack
wire_asks signal WireNothing o = refl
wire_asks signal WireAck o = refl
wire_asks signal WireNoAck o = refl
wire_asks signal (WireByte x) o = refl

wire_code : (answer : WireAnswer) (o : List ℕ) → code_in (from_wire answer) o ≡ 0
unfolding code_in from_wire
wire_code WireNothing o = refl
wire_code WireAck o = refl
wire_code WireNoAck o = refl
wire_code (WireByte x) o = refl

-- no signal but a byte sent is NoAcked
start_none : (t : Tag) (m : List ℕ) → is_no_ack (start_of (wire_side t) m).answer ≡ false
unfolding start_of start_at is_no_ack
start_none t m = pick_case (λ (result : WireResult). is_no_ack result.answer ≡ false) t.host.vcc _ _ (λ h. refl) (λ h. refl)

fetch_none : (b : Bus) (t : Tag) (m : List ℕ) (ack : Bool) → is_no_ack (fetch_at b (wire_side t) t.uid m ack).answer ≡ false
unfolding fetch_at is_no_ack
fetch_none Idle t m ack = refl
fetch_none (Started transfer) t m ack = refl
fetch_none (ReadLeg kept space over last) t m ack = pick_case (λ (result : WireResult). is_no_ack result.answer ≡ false) over _ _ (λ h. refl) (λ h. refl)
fetch_none (WriteLeg kept space) t m ack = refl
fetch_none (LowAddress kept space high) t m ack = refl
fetch_none (DataLeg kept space count spoiled) t m ack = refl

wire_says : (t : Tag) (m f : List ℕ) → tag_in_range t m ≡ true → (signal : WireSignal)
    → is_no_ack (signal_of (wire_side t) t.uid m signal).answer ≡ any_holds (rule_holds t m (Wire signal) f) (wire_rules t.host.bus signal)
unfolding any_holds signal_of wire_rules stop_at is_no_ack
wire_says t m f h Start = start_none t m
wire_says t m f h (Send x) =
    let parts = range_parts t m h in
    byte_says t m x f t.host.bus refl (has_vcc t.host t.core.mailbox.enabled parts.supplied) (not_programming t.host parts.host)
wire_says t m f h (Fetch ack) = fetch_none t.host.bus t m ack
wire_says t m f h Stop = refl
wire_says t m f h (Vcc on) = refl
wire_says t m f h ProgrammingEnd = refl

-- a rule of the wire has no code
module _ (holds : Rule → Bool) where
  other_code : first_says holds rule_code 0 other_byte_rules ≡ 0
  unfolding first_says other_byte_rules rule_code
  other_code = simp pick_same

  data_code : first_says holds rule_code 0 data_byte_rules ≡ 0
  unfolding data_byte_rules rule_code
  data_code =
      says_map byte_forbidden holds rule_code 0 (write_reasons None)
      ∙ same_says (λ reason. holds (byte_forbidden reason)) 0 0 (write_reasons None)
      ∙ pick_same (any_holds (λ reason. holds (byte_forbidden reason)) (write_reasons None)) 0

  byte_code : (b : Bus) → first_says holds rule_code 0 (byte_rules b) ≡ 0
  unfolding byte_rules
  byte_code Idle = other_code
  byte_code (Started transfer) = other_code
  byte_code (ReadLeg kept space over last) = other_code
  byte_code (WriteLeg kept space) = other_code
  byte_code (LowAddress kept space high) = other_code
  byte_code (DataLeg kept space count spoiled) = data_code

  no_code : (b : Bus) (signal : WireSignal) → first_says holds rule_code 0 (wire_rules b signal) ≡ 0
  unfolding first_says wire_rules
  no_code b Start = refl
  no_code b (Send x) = byte_code b
  no_code b (Fetch ack) = refl
  no_code b Stop = refl
  no_code b (Vcc on) = refl
  no_code b ProgrammingEnd = refl

  wire_list_code : (b : Bus) (signal : WireSignal) → explained_code (first_says holds explained_by unexplained (wire_rules b signal)) ≡ 0
  unfolding explained_code
  wire_list_code b signal = says_through explained_code holds explained_by unexplained (wire_rules b signal) ∙ no_code b signal

-- ---- every signal
module _ (t : Tag) (m o f : List ℕ) (room : 1 < length o) (h : tag_in_range t m ≡ true) where
  abbrev Explained-by : Signal → Type 0
  Explained-by signal = Explanation t m signal f (explained t m signal f) (act_of signal t m o f)

  by_wire_lem : (signal : WireSignal) → Explained-by (Wire signal)
  unfolding explained act_of rules_for
  by_wire_lem signal =
      let answer = (signal_of (wire_side t) t.uid m signal).answer in
      record {
        exactly = explained_any (rule_holds t m (Wire signal) f) (wire_rules t.host.bus signal) ∙ sym (wire_says t m f h signal) ∙ sym (wire_asks signal answer o);
        first = explained_first (rule_holds t m (Wire signal) f) (wire_rules t.host.bus signal);
        code = wire_list_code (rule_holds t m (Wire signal) f) t.host.bus signal ∙ sym (wire_code answer o);
      }

  by_field : (on : Bool) → Explained-by (Field on)
  unfolding explained act_of rules_for first_says is_explained asks_rule explained_code code_in
  by_field on = record { exactly = refl; first = explained_first (rule_holds t m (Field on) f) []; code = refl }

  by_frame : Explained-by Frame
  unfolding explained act_of rules_for
  by_frame =
      let result = radio_of (radio_side t) t.uid t.host.vcc (transfer_at t.host.bus) t.host.programming m f in
      let holds = rule_holds t m Frame f in
      let says = frame_says t m f in
      let buffer = told _ m result o room (frame_leaves (radio_side t) t.uid t.host.vcc (transfer_at t.host.bus) t.host.programming m f) in
      record {
        exactly = list_asks holds (frame_rules f) ∙ ap asks_said (sym says) ∙ sym buffer.asks;
        first = explained_first holds (frame_rules f);
        code = list_code holds (frame_rules f) ∙ ap code_said (sym says) ∙ sym buffer.code;
      }

  -- an end-of-frame is answered by a good reply or not at all
  abbrev Unasked : CommandResult → Type 0
  Unasked x = (false ≡ asks_rule EndOfFrame (from_radio (answer_of x.reply)) (buffer_of x.reply o)) × (◌≡◌ {A = ℕ} 0 (code_in (from_radio (answer_of x.reply)) (buffer_of x.reply o)))

  unasked_nothing : (v : RadioSide) → Unasked (command_result nothing v m)
  unfolding asks_rule is_frame code_in from_radio answer_of
  unasked_nothing v = (refl, refl)

  unasked_good : (v : RadioSide) (s : List ℕ) → Unasked (command_result (good s) v m)
  unfolding asks_rule code_in from_radio answer_of pick
  unasked_good v s = let e = first_byte 0 s o (omega arith) in (rw e, rw e)

  end_unasked : Unasked (next_slot_of (radio_side t) t.uid (transfer_at t.host.bus) t.host.programming m)
  unfolding next_slot_of
  end_unasked =
      let next = with_air (with_slots (t.air.slots - 1) t.air) (radio_side t) in
      end_case Unasked (radio_side t) t.uid _ _ m
      (λ _. pick_case Unasked (eqb t.air.slots 1) _ _ (λ _. unasked_good next _) (λ _. unasked_nothing next))
      (unasked_nothing (radio_side t))

  by_end : Explained-by EndOfFrame
  unfolding explained act_of rules_for first_says is_explained explained_code
  by_end = record { exactly = end_unasked.0; first = explained_first (rule_holds t m EndOfFrame f) []; code = end_unasked.1 }

  by_signal : (signal : Signal) → Explained-by signal
  by_signal (Wire signal) = by_wire_lem signal
  by_signal (Field on) = by_field on
  by_signal Frame = by_frame
  by_signal EndOfFrame = by_end

pub explains : Explains
explains t m call h =
    let room : 643 ≤ length call.buffer = room_of t m call h in
    let signal = signal_by call.code call.value in
    subst (λ (result : StepResult). Explanation t m signal call.frame (explained t m signal call.frame) result) (sym (acts t m call h))
    (by_signal t m call.buffer call.frame (omega arith) (range_of t m call h) signal)
