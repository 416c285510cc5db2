-- Demand 2, host direction, at the entry. Assumes nothing.
use Rattle.std.specs.Prelude.{None}
use mathlib.Core.Path.{◌≡◌, refl, sym, ap, ◌∙◌}
use mathlib.Core.Bool.{true, false, ◌&&◌}
use mathlib.Core.List.{List, [], ◌∷◌}
use Prim.Native.Nat.{◌≤◌}
use lib.Dec.{leb}
use lib.ListN.{length}
use borrow.Author.Tests.{leb-true}
use Rattle.parts.specs.Pick.{pick}
use Rattle.parts.proofs.Bools.{and_left, and_right}
use Rattle.bus.specs.declared.Bus.{Bus}
use Rattle.bus.specs.declared.Bus.TheVariants.{Started}
use Rattle.tag.specs.declared.WireSide.{WireSide}
use Rattle.tag.specs.Layout.{reply_bytes}
use Rattle.tag.specs.Parts.{wire_side, with_wire}
use Rattle.signal.specs.Signal.{side_bus}
use Rattle.transfer.specs.Legs.{Noted, NotedStart, NotedSend, NotedFetch, NotedStop, NotedVccOff, wire_signal}
use Rattle.transfer.specs.Whole.{TransferResult}
use Rattle.transfer.specs.Claim.{run_of}
use Rattle.transfer.proofs.Transfer.{transfer_by_signals}
use Rattle.rule_list.specs.RuleList.{first_says}
use Rattle.signal_table.specs.declared.Signal.TheVariants.{Wire}
use Rattle.signal_table.specs.Table.{signal_table, signal_found, is_found, signal_in_range, signal_in, signal_by}
use Rattle.signal_table.proofs.Laws.{byte_known, byte_code}
use Rattle.model.specs.Step.{act_of}
use Rattle.model.specs.Claims.{Fit}
use Rattle.model.proofs.Acts.{signal_of_call, fit_acts}
use Rattle.model.proofs.Kept.{wire_fit}
use Rattle.calls.specs.Calls.{Device, device, DeviceResult, device_result_of, RunResult, run_result, entry, run_by}
use Rattle.demand2.specs.Demand2.{WireCall, call_by, wire_calls, signals, sends_byte, all_served, answers_of, TransferServed}
use Rattle.demand2.proofs.Frames.{not_refused_by}

-- ---- a call that is not refused
abbrev noted : Device → Noted → WireCall → DeviceResult
noted d n w = device_result_of (act_of (Wire (wire_signal n)) d.tag d.memory w.buffer w.frame)

-- the codes are the signals'
known : (n : Noted) (w : WireCall) → sends_byte n ≡ true → signal_in_range (call_by n w).code (call_by n w).value ≡ true
unfolding call_by sends_byte signal_in_range is_found signal_found signal_table first_says pick
known NotedStart w h = refl
known (NotedSend x) w h = byte_known x h
known (NotedFetch true) w h = refl
known (NotedFetch false) w h = refl
known NotedStop w h = refl
known NotedVccOff w h = refl

by_code : (n : Noted) (w : WireCall) → sends_byte n ≡ true → signal_of_call (call_by n w) ≡ Wire (wire_signal n)
unfolding call_by sends_byte wire_signal signal_found signal_table first_says signal_in signal_by pick
by_code NotedStart w h = refl
by_code (NotedSend x) w h = byte_code x (byte_known x h)
by_code (NotedFetch true) w h = refl
by_code (NotedFetch false) w h = refl
by_code NotedStop w h = refl
by_code NotedVccOff w h = refl

handed_buffer : (n : Noted) (w : WireCall) → ((call_by n w).buffer ≡ w.buffer) × ((call_by n w).frame ≡ w.frame)
unfolding call_by
handed_buffer NotedStart w = (refl, refl)
handed_buffer (NotedSend x) w = (refl, refl)
handed_buffer (NotedFetch ack) w = (refl, refl)
handed_buffer NotedStop w = (refl, refl)
handed_buffer NotedVccOff w = (refl, refl)

-- a noted signal's call acts as that signal
entry_notes : (d : Device) (n : Noted) (w : WireCall) → Fit d.tag d.memory → leb reply_bytes (length w.buffer) ≡ true
    → sends_byte n ≡ true → entry d (call_by n w) ≡ noted d n w
unfolding entry
entry_notes d n w f o h =
    let b = handed_buffer n w in
    let room : reply_bytes ≤ length (call_by n w).buffer = rw b.0 (leb-true reply_bytes (length w.buffer) o) in
    let none = not_refused_by (call_by n w) room (known n w h) in
    ap device_result_of (fit_acts d.tag d.memory (call_by n w) f none ∙ rw (by_code n w h, b.0, b.1))

-- ---- a run of such calls is the run of their signals
abbrev left : Device → TransferResult → List WireCall → RunResult
left d r ws = run_result (answers_of r.answers ws) (device (with_wire r.side d.tag) r.memory)

-- what a call and the rest give
abbrev then : DeviceResult → RunResult → RunResult
then e r = run_result (e.says ∷ r.answers) r.device

run_notes : (ws : List WireCall) (d : Device) → Fit d.tag d.memory → all_served ws ≡ true
    → run_by entry d (wire_calls ws) ≡ left d (run_of (wire_side d.tag) d.tag.uid d.memory (signals ws)) ws
unfolding run_by wire_calls signals all_served answers_of run_of act_of
run_notes [] d f h = refl
run_notes (w ∷ ws) d f h =
    let long = leb reply_bytes (length w.buffer) in
    let own = and_left (long && sends_byte w.signal) (all_served ws) h in
    let n = entry_notes d w.signal w f (and_left long (sends_byte w.signal) own) (and_right long (sends_byte w.signal) own) in
    let x = wire_signal w.signal in
    ap (λ (e : DeviceResult). then e (run_by entry e.device (wire_calls ws))) n
    ∙ ap (then (noted d w.signal w))
    (run_notes ws (noted d w.signal w).device (wire_fit x d.tag d.memory w.buffer w.frame f) (and_right (long && sends_byte w.signal) (all_served ws) h))

-- ---- the claim
started : (w : WireSide) (b : Bus) → w.host.bus ≡ b → side_bus b w ≡ w
started w b h = ap (λ (b : Bus). side_bus b w) (sym h)

pub transfer_served : TransferServed
transfer_served d ws r l b v p e h =
    let w = wire_side d.tag in
    run_notes ws d (record { range = r; size = l }) h
    ∙ ap (λ (q : TransferResult). left d q ws)
    (ap (λ (w : WireSide). run_of w d.tag.uid d.memory (signals ws)) (sym (started w (Started None) b))
    ∙ sym (transfer_by_signals (signals ws) e w d.tag.uid d.memory None (record { vcc = v; still = p; bytes = l })))
