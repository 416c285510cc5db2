-- What one call of the entry point does to a tag in range: struck frames, what stays, and that refusals 1 and 4 do not come. Assumes nothing.
use mathlib.Core.Path.{◌≡◌, refl, sym, ap}
use mathlib.Core.List.{List}
use Prim.Native.Nat.{ℕ}
use mathlib.Core.Bool.{true, false, not, ◌&&◌, false≢true}
use Rattle.std.specs.Prelude.{Err}
use Rattle.parts.proofs.Bools.{and_left, and_right}
use Rattle.waiting.specs.Passed.{side_counted, Answer, Refused, Nothing, Ack, NoAck, Byte, Silence, Reply as ReplyOf, transfer_open, act_of, is_refused, Device, DeviceResult, device_result, entry, call_reply}
use Rattle.waiting.proofs.Passed.{counted_stays, act_served, Fits, acted_by, found, call_case, supplied}
use Rattle.rule_list.specs.RuleList.{any_holds}
use Rattle.refusals.specs.declared.Refusal.{Refusal}
use Rattle.refusals.specs.Refusals.{number, looks_at_tag, argument_rules}
use Rattle.refusals.proofs.Laws.{refused_by}
use Rattle.signal_table.specs.declared.Signal.{Signal}
use Rattle.signal_table.specs.declared.Signal.TheVariants.{Wire, Field, Frame, EndOfFrame}
use Rattle.signal_table.specs.Table.{signal_by}
use Rattle.register_types.specs.declared.RfMngt.{RfMngt}
use Rattle.air.specs.declared.Air.{Air}
use Rattle.keys.specs.declared.Uid.{Uid}
use Rattle.tag.specs.declared.Tag.{Tag}
use Rattle.reply.specs.Reply.{ReplyBody, nothing}
use Rattle.tag.specs.Parts.{wire_side}
use Rattle.refusals.specs.Call.{Call}
use Rattle.demand3.specs.Demand3.{refused_by_state, is_radio, struck}
use Rattle.waiting.proofs.Frames.{shut_by, frame_shut, end_shut}

-- ---- a struck call
-- RF_MNGT_Dyn as it counts for a frame
abbrev pub tag_counted : Tag → RfMngt
tag_counted t = side_counted (wire_side t)

-- its reply, by RF_MNGT_Dyn as it counts
unfoldable pub shut_of : Signal → List ℕ → Air → Uid → RfMngt → ReplyBody
shut_of (Wire s) f a u dynamic = nothing
shut_of (Field on) f a u dynamic = nothing
shut_of Frame f a u dynamic = shut_by f a u dynamic
shut_of EndOfFrame f a u dynamic = nothing

abbrev shut_call : Signal → Device → Call → DeviceResult
shut_call x d c = device_result (call_reply (shut_of x c.frame d.tag.air d.tag.uid (tag_counted d.tag)) c.buffer) d

of_radio_lem : (x : Signal) (d : Device) (c : Call) → is_radio x ≡ true → transfer_open d.tag ≡ true → acted_by x d c ≡ shut_call x d c
unfolding is_radio shut_of
of_radio_lem (Wire s) d c h opened = absurd (false≢true h)
of_radio_lem (Field on) d c h opened = absurd (false≢true h)
of_radio_lem Frame d c h opened = frame_shut d c opened
of_radio_lem EndOfFrame d c h opened = end_shut d c opened

pub struck_is : (d : Device) (c : Call) → Fits d → struck entry d c ≡ true → entry d c ≡ shut_call (signal_by c.code c.value) d c
unfolding struck is_refused
struck_is d c f h =
    let opened = transfer_open d.tag in
    let x = signal_by c.code c.value in
    let both = and_left (opened && is_radio x) (not (is_refused (entry d c).says.answer)) h in
    call_case (λ (e : DeviceResult). not (is_refused e.says.answer) ≡ true → e ≡ shut_call x d c) d c f
    (λ r found n. absurd (false≢true n))
    (λ n. of_radio_lem x d c (and_right opened (is_radio x) both) (and_left opened (is_radio x) both))
    (and_right (opened && is_radio x) (not (is_refused (entry d c).says.answer)) h)

-- ---- what a call that leaves a transfer open keeps
pub record Stays (d : Device) (e : DeviceResult) : Type 0 where
  pub uid : e.device.tag.uid ≡ d.tag.uid
  pub counted : transfer_open e.device.tag ≡ true → tag_counted e.device.tag ≡ tag_counted d.tag

act_stays : (x : Signal) (d : Device) (c : Call) → Fits d → Stays d (acted_by x d c)
unfolding act_of
act_stays (Wire x) d c f =
    record { uid = refl; counted = counted_stays (wire_side d.tag) d.tag.uid d.memory x (supplied d.tag d.memory f) }
act_stays (Field on) d c f = record { uid = refl; counted = λ h. refl }
act_stays EndOfFrame d c f = record { uid = refl; counted = λ h. ap (λ (e : DeviceResult). tag_counted e.device.tag) (end_shut d c h) }
act_stays Frame d c f = record { uid = refl; counted = λ h. ap (λ (e : DeviceResult). tag_counted e.device.tag) (frame_shut d c h) }

pub call_stays : (d : Device) (c : Call) → Fits d → Stays d (entry d c)
call_stays d c f =
    call_case (Stays d) d c f (λ r found. record { uid = refl; counted = λ h. refl })
    (act_stays (signal_by c.code c.value) d c f)

-- ---- its answer is not refusal 1 or 4
-- the call's own arguments tell none of these
argument_judged : (c : Call) (r : Refusal) → found c ≡ Err r → refused_by_state (Refused r) ≡ false
unfolding refused_by_state looks_at_tag number any_holds
argument_judged c r h = refused_by looks_at_tag (argument_rules c) r refl h

served_judged : (a : Answer) → is_refused a ≡ false → refused_by_state a ≡ false
unfolding is_refused refused_by_state
served_judged (Refused r) h = absurd (false≢true (sym h))
served_judged Nothing h = refl
served_judged Ack h = refl
served_judged NoAck h = refl
served_judged (Byte x) h = refl
served_judged Silence h = refl
served_judged (ReplyOf k) h = refl

pub call_judged : (d : Device) (c : Call) → Fits d → refused_by_state (entry d c).says.answer ≡ false
call_judged d c f =
    call_case (λ (e : DeviceResult). refused_by_state e.says.answer ≡ false) d c f (argument_judged c)
    (served_judged _ (act_served (signal_by c.code c.value) d.tag d.memory c.buffer c.frame))
