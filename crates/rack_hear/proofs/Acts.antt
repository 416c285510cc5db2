-- One tag that acts on a call: what does not read the reply buffer, and who leaves it. Assumes nothing.
use mathlib.Core.Path.{◌≡◌, refl, sym, ap, ◌∙◌}
use mathlib.Core.Bool.{Bool, true, false, not, ◌&&◌, ◌||◌, false≢true}
use mathlib.Core.List.{List}
use Prim.Native.Nat.{ℕ}
use lib.Dec.{leb, eqb}
use lib.ListN.{length}
use borrow.Author.Tests.{eqb-true}
use Rattle.std.specs.Prelude.{Ok}
use Rattle.parts.specs.Pick.{pick}
use Rattle.parts.proofs.Bools.{and_left}
use Rattle.rule_list.specs.RuleList.{any_holds}
use Rattle.rule_list.proofs.Laws.{says_passes}
use Rattle.bus.specs.Bus.{transfer_at}
use Rattle.tag.specs.declared.Tag.{Tag}
use Rattle.tag.specs.Layout.{memory_bytes}
use Rattle.tag.specs.Parts.{wire_side}
use Rattle.signal_table.specs.declared.Signal.{Signal}
use Rattle.signal_table.specs.declared.Signal.TheVariants.{Wire, Field, Frame, EndOfFrame}
use Rattle.std.specs.Prelude.{Option, Some, None}
use Rattle.signal_table.specs.Table.{SignalRow, signal_table, signal_found, is_found, signal_in_range, signal_in, signal_by}
use Rattle.signal.specs.declared.WireAnswer.{WireAnswer}
use Rattle.signal.specs.declared.WireAnswer.TheVariants.{Nothing as WireNothing, Ack as WireAck, NoAck as WireNoAck, Byte as WireByte}
use Rattle.model.specs.Passed.{signal_of, dynamic_now, busy_now, radio_of, next_slot_of}
use Rattle.reply.specs.Reply.{ReplyBody, nothing, body, buffer_of, answer_of}
use Rattle.reply.specs.Outcome.{radio_side}
use Rattle.inventory_reply.proofs.Laws.{end_leaves}
use Rattle.model.proofs.Passed.{frame_behaves}
use Rattle.refusals.specs.Call.{Call}
use Rattle.refusals.specs.Refusals.{argument_rules, judgement}
use Rattle.model.specs.declared.Answer.TheVariants.{Nothing, Silence}
use Rattle.model.specs.Step.{StepResult, is_reply, from_wire, from_radio, act_of}
use Rattle.model.specs.Claims.{Fit}
use Rattle.model.proofs.Acts.{fit_acts}
use Rattle.model.proofs.Kept.{wire_fit}
use Rattle.rack_judge.specs.Passed.{CallAnswer, call_answer, Device, device_result_of, entry, is_wire}
use Rattle.rack_judge.proofs.Passed.{Fits, acted}

-- ---- the reply buffer
-- the answer, the tag and its bytes do not read it
abbrev pub Alike : StepResult → StepResult → Type 0
Alike a b = (a.answer ≡ b.answer) × (a.tag ≡ b.tag) × (a.memory ≡ b.memory)

pub blind : (x : Signal) (t : Tag) (m o p f : List ℕ) → Alike (act_of x t m o f) (act_of x t m p f)
unfolding act_of
blind (Wire x) t m o p f = (refl, refl, refl)
blind (Field on) t m o p f = (refl, refl, refl)
blind Frame t m o p f = (refl, refl, refl)
blind EndOfFrame t m o p f = (refl, refl, refl)

-- ---- who does not reply
abbrev pub says_by : StepResult → CallAnswer
says_by e = call_answer e.answer e.reply

wire_answer : (a : WireAnswer) → is_reply (from_wire a) ≡ false
unfolding is_reply from_wire
wire_answer WireNothing = refl
wire_answer WireAck = refl
wire_answer WireNoAck = refl
wire_answer (WireByte x) = refl

pub wire_no_reply : (x : Signal) (t : Tag) (m o f : List ℕ) → is_wire x ≡ true → is_reply (act_of x t m o f).answer ≡ false
unfolding act_of is_wire
wire_no_reply (Wire x) t m o f h = wire_answer (signal_of (wire_side t) t.uid m x).answer
wire_no_reply (Field on) t m o f h = absurd (false≢true h)
wire_no_reply Frame t m o f h = absurd (false≢true h)
wire_no_reply EndOfFrame t m o f h = absurd (false≢true h)

unfoldable pub is_field : Signal → Bool
is_field (Wire x) = false
is_field (Field on) = true
is_field Frame = false
is_field EndOfFrame = false

no_body : (r : ReplyBody) (o : List ℕ) → is_reply (from_radio (answer_of r)) ≡ false
    → call_answer (from_radio (answer_of r)) (buffer_of r o) ≡ call_answer Silence o
unfolding is_reply from_radio answer_of buffer_of
no_body nothing o h = refl
no_body (body s) o h = absurd (false≢true (sym h))

-- of the signals to all: its answer is the rack's without a reply, and the buffer stays
pub no_reply_says : (x : Signal) (t : Tag) (m o f : List ℕ) → is_wire x ≡ false → is_reply (act_of x t m o f).answer ≡ false
    → says_by (act_of x t m o f) ≡ call_answer (pick (is_field x) Nothing Silence) o
unfolding act_of is_wire is_field pick
no_reply_says (Wire x) t m o f h k = absurd (false≢true (sym h))
no_reply_says (Field on) t m o f h k = refl
no_reply_says Frame t m o f h k =
    no_body (radio_of (radio_side t) t.uid t.host.vcc (transfer_at t.host.bus) t.host.programming m f).reply o k
no_reply_says EndOfFrame t m o f h k = no_body (next_slot_of (radio_side t) t.uid (transfer_at t.host.bus) t.host.programming m).reply o k

-- ---- code 2 is the field's
other_field : ℕ → SignalRow → Bool
other_field value row = eqb row.code 2 && not (is_field (row.signal value)) || not (eqb row.code 2) && is_field (row.signal value)

same : (a b : Bool) → (a && not b || not a && b) ≡ false → a ≡ b
same true true h = refl
same true false h = h
same false true h = sym h
same false false h = refl

none_other : (value : ℕ) → any_holds (other_field value) signal_table ≡ false
unfolding any_holds signal_table other_field is_field
none_other value = refl

pub field_code : (code value : ℕ) → signal_in_range code value ≡ true → eqb code 2 ≡ is_field (signal_by code value)
unfolding signal_in_range signal_by signal_in is_found signal_found other_field
field_code code value =
    says_passes (λ (row : SignalRow). eqb code row.code && leb value row.top) (other_field value) (λ (row : SignalRow). Some (row.signal value)) None
    (λ (found : Option Signal). is_found found ≡ true → eqb code 2 ≡ is_field (signal_in found)) signal_table (none_other value)
    (λ row h k _. ap (λ (n : ℕ). eqb n 2) (eqb-true code row.code (and_left (eqb code row.code) (leb value row.top) h)) ∙ same (eqb row.code 2) (is_field (row.signal value)) k)
    (λ h. absurd (false≢true h))

-- ---- the memory's length
pub act_size : (x : Signal) (t : Tag) (m o f : List ℕ) → Fit t m → length (act_of x t m o f).memory ≡ memory_bytes
unfolding act_of next_slot_of
act_size (Wire x) t m o f fit = (wire_fit x t m o f fit).size
act_size (Field on) t m o f fit = fit.size
act_size Frame t m o f fit =
    (frame_behaves (radio_side t) t.host.vcc m f t.uid (transfer_at t.host.bus) t.host.programming).size ∙ fit.size
act_size EndOfFrame t m o f fit =
    let transfer = transfer_at t.host.bus in
    ap length (end_leaves (radio_side t) t.uid (dynamic_now (radio_side t) transfer) (busy_now transfer t.host.programming) m).1 ∙ fit.size

-- ---- a call that is not refused
pub entry_acts : (d : Device) (c : Call) → Fits d → judgement (argument_rules c) ≡ Ok tt → entry d c ≡ acted d c
unfolding entry
entry_acts d c f h = ap device_result_of (fit_acts d.tag d.memory c f h)
