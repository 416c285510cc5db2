-- A frame and an end-of-frame while a transfer is open, by the entry point and by the waiting tag. Assumes nothing.
use Rattle.std.specs.Prelude.{Option}
use Rattle.bus.specs.declared.OpenTransfer.{OpenTransfer}
use mathlib.Core.Path.{◌≡◌, refl, sym, ap, ◌∙◌}
use mathlib.Core.Bool.{Bool, true, false, ◌||◌}
use mathlib.Core.List.{List}
use Prim.Native.Nat.{ℕ}
use Rattle.parts.specs.Pick.{pick}
use Rattle.parts.specs.Bits.{is_set}
use Rattle.parts.proofs.Bools.{or_second}
use Rattle.register_types.specs.declared.RfMngt.{RfMngt}
use Rattle.air.specs.declared.Air.{Air}
use Rattle.bus.specs.Bus.{is_open_transfer, counted_dynamic, kept_of, transfer_at, is_open}
use Rattle.keys.specs.declared.Uid.{Uid}
use Rattle.tag.specs.declared.Tag.{Tag}
use Rattle.tag.specs.Parts.{wire_side}
use Rattle.calls.specs.Passed.{side_counted, verdict_result, radio_of, transfer_open, act_of}
use Rattle.reply.specs.declared.RadioSide.{RadioSide}
use Rattle.errors.specs.declared.RadioError.TheVariants.{ShutOut}
use Rattle.reply.specs.Reply.{ReplyBody, nothing, fault}
use Rattle.reply.specs.Outcome.{CommandResult, command_result, radio_side, with_radio}
use Rattle.judge.specs.declared.Verdict.{Verdict}
use Rattle.judge.specs.declared.Verdict.TheVariants.{Silence, Error}
use Rattle.judge.specs.Judge.{is_mute, error_of, shut_out}
use Rattle.silence_rules.specs.Silence.{is_silent}
use Rattle.judge.proofs.ShutOut.{shut_out_decides}
use Rattle.frame.specs.Fields.{inventory_flag}
use Rattle.inventory_reply.proofs.Laws.{inventory_shut}
use Rattle.calls.proofs.Passed.{end_of_frame_shut}
use Rattle.signal_table.specs.declared.Signal.TheVariants.{Frame, EndOfFrame}
use Rattle.refusals.specs.Call.{Call}
use Rattle.calls.specs.Calls.{Device, device, device_result, call_reply}
use Rattle.waiting.specs.Waiting.{as_opened, frame_answer, end_answer}
use Rattle.calls.proofs.Laws.{acted_by}

two_tests : (a b : Bool) (t : RadioSide) (u : Uid) (vcc : Bool) (m s : List ℕ)
    → verdict_result (pick a Silence (pick b Silence (Error ShutOut))) t u vcc m s ≡ command_result (pick (a || b) nothing (fault ShutOut)) t m
unfolding verdict_result pick
two_tests true b t u vcc m s = refl
two_tests false true t u vcc m s = refl
two_tests false false t u vcc m s = refl

abbrev pub shut_by : List ℕ → Air → Uid → RfMngt → ReplyBody
shut_by s a u d = pick (inventory_flag s || is_silent s a u d || is_mute s u) nothing (fault ShutOut)

-- an inventory frame gets nothing
by_flag : (i a b : Bool) (t : RadioSide) (m : List ℕ) (x y : CommandResult) → x ≡ command_result nothing t m → y ≡ command_result (pick (a || b) nothing (fault ShutOut)) t m
    → pick i x y ≡ command_result (pick (i || a || b) nothing (fault ShutOut)) t m
unfolding pick
by_flag true a b t m x y p q = p
by_flag false a b t m x y p q = q

-- with a transfer open the tag is shut out
is_shut : (t : RadioSide) (transfer : Option OpenTransfer) (programming : Bool) → is_open_transfer transfer ≡ true
    → (is_set 1 (counted_dynamic transfer t.core.registers.dynamic).bits || (is_open_transfer transfer || programming)) ≡ true
is_shut t transfer programming h =
    or_second (is_set 1 (counted_dynamic transfer t.core.registers.dynamic).bits) (is_open_transfer transfer || programming) (rw h)

pub shut_told : (t : RadioSide) (u : Uid) (vcc : Bool) (transfer : Option OpenTransfer) (programming : Bool) (m s : List ℕ) → is_open_transfer transfer ≡ true
    → radio_of t u vcc transfer programming m s ≡ command_result (shut_by s t.air u (counted_dynamic transfer t.core.registers.dynamic)) t m
unfolding radio_of shut_out error_of
shut_told t u vcc transfer programming m s h =
    let d = counted_dynamic transfer t.core.registers.dynamic in
    let busy = is_open_transfer transfer || programming in
    let shut = is_shut t transfer programming h in
    by_flag (inventory_flag s) (is_silent s t.air u d) (is_mute s u) t m _ _ (sym (inventory_shut t u d busy m s shut))
    (ap (λ (v : Verdict). verdict_result v t u vcc m s) (shut_out_decides s t.air u d busy shut) ∙ two_tests (is_silent s t.air u d) (is_mute s u) t u vcc m s)

abbrev shut_from : Tag → RfMngt → Call → ReplyBody
shut_from t dynamic c = shut_by c.frame t.air t.uid dynamic

-- by the entry point
pub frame_shut : (d : Device) (c : Call) → transfer_open d.tag ≡ true
    → acted_by Frame d c ≡ device_result (call_reply (shut_from d.tag (side_counted (wire_side d.tag)) c) c.buffer) d
unfolding act_of is_open
frame_shut d c h =
    ap (λ (r : CommandResult). device_result (call_reply r.reply c.buffer) (device (record { air = r.side.air; host = d.tag.host; core = r.side.core; uid = d.tag.uid }) r.memory))
    (shut_told (radio_side d.tag) d.tag.uid d.tag.host.vcc (transfer_at d.tag.host.bus) d.tag.host.programming d.memory c.frame h)

-- by the waiting tag
pub frame_waits : (k : Device) (c : Call) → frame_answer k c ≡ call_reply (shut_from k.tag k.tag.core.registers.dynamic c) c.buffer
unfolding frame_answer is_open_transfer counted_dynamic kept_of
frame_waits k c =
    ap (λ (r : CommandResult). call_reply r.reply c.buffer)
    (shut_told (radio_side k.tag) k.tag.uid k.tag.host.vcc (as_opened k) k.tag.host.programming k.memory c.frame refl)

-- ---- an end-of-frame
pub end_shut : (d : Device) (c : Call) → transfer_open d.tag ≡ true → acted_by EndOfFrame d c ≡ device_result (call_reply nothing c.buffer) d
unfolding act_of is_open
end_shut d c h =
    ap (λ (r : CommandResult). device_result (call_reply r.reply c.buffer) (device (with_radio r.side d.tag) r.memory))
    (end_of_frame_shut (radio_side d.tag) d.tag.uid (transfer_at d.tag.host.bus) d.tag.host.programming d.memory
    (is_shut (radio_side d.tag) (transfer_at d.tag.host.bus) d.tag.host.programming h))

pub end_waits : (k : Device) (c : Call) → end_answer k c ≡ call_reply nothing c.buffer
unfolding end_answer is_open_transfer counted_dynamic kept_of
end_waits k c =
    ap (λ (r : CommandResult). call_reply r.reply c.buffer)
    (end_of_frame_shut (radio_side k.tag) k.tag.uid (as_opened k) k.tag.host.programming k.memory
    (is_shut (radio_side k.tag) (as_opened k) k.tag.host.programming refl))
