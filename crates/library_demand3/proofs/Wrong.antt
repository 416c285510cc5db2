-- Library steps that demand 3 over the library's calls shuts out, each by one list. Assumes nothing.
use Rattle.std.specs.Prelude.{None}
use mathlib.Core.Path.{◌≡◌, refl, ap}
use mathlib.Core.Bool.{true, false, not}
use mathlib.Core.List.{List, [], ◌∷◌}
use Prim.Native.Nat.{ℕ}
use native.Mathlib.Omega.{arith}
use lib.Dec.{ltb, eqb}
use lib.ListN.{length, get_or}
use Rattle.parts.specs.Bytes.{are_bytes}
use Rattle.air.specs.declared.RadioState.TheVariants.{Selected}
use Rattle.bus.specs.declared.Bus.TheVariants.{Started}
use Rattle.tag.specs.declared.Tag.{Tag}
use Rattle.tag.specs.Layout.{memory_bytes}
use Rattle.bus.specs.Bus.{is_active}
use Rattle.air.specs.Radio.{is_selected}
use Rattle.tag.specs.Supply.{fresh_tag}
use Rattle.registers.specs.Map.{register_bytes}
use Rattle.state.specs.Layout.{flag_byte, radio_number, radio_state_of, space_number, space_of, air_bytes, air_decodes, air_at, transfer_byte, bus_bytes, is_bus, bus_of, bus_decodes, bus_at, host_bytes, host_decodes, host_at, registers_at, mailbox_bytes, mailbox_decodes, mailbox_at, password_bytes, passwords_at, bytes_of, decodes, tag_of}
use Rattle.model.specs.Step.{transfer_open, is_refused}
use Rattle.refusals.specs.Refusals.{tag_in_range}
use Rattle.transfer.specs.Legs.{select_refused, ends, fresher, is_empty, finished, push, parse}
use Rattle.transfer.specs.Whole.{bytes_sent, replies, accepted, write_leg, selected_leg, leg_of, last_leg, legs_of, transfer_of}
use Rattle.capi.specs.Interface.{answer_number, step_call}
use Rattle.next_state.specs.After.{state_after}
use Rattle.refusals.specs.Call.{Call}
use Rattle.calls.specs.Calls.{Device, device, frames_fit}
use Rattle.calls.specs.Examples.{zeros, field_to, send, stop, programming_end, frame, uid, powered, ◌but◌, radio_state, radio_session, i2c_session, being_programmed, on_bus, host_message}
use Rattle.demand3.specs.Passed.{fill, answered, notes_of, is_started, acked_select, opens, when_closed, note, frame_answer, end_answer, notes, when_open, wait_act, wait_step, wait_run}
use Rattle.demand3.specs.Demand3.{is_radio, shut_reply, is_closed}
use Rattle.calls.proofs.Computes.{computes}
use Rattle.library_demand3.specs.Calls.{LibraryAnswer, LibraryRunResult, exported, library_run}
use Rattle.library_demand3.specs.Claim.{in_numbers, in_bytes, library_struck, EachLibraryStruck, LibrarySame, Starts}
use Rattle.library_demand3.specs.Wrong.{LibraryRefuted, acks_stop, refuses_by3, raises_reply, writes_past, leaves_trace, keeps_state, session_place, coded, decoded, codes_session, drops_page_byte, supplied, marks_state, restored, marks_memory, turned, turns_field, wrong_where}

-- all that a run of the library's calls, and the waiting tag's, computes with
unfoldable runs : Unit {0}
unfolding computes flag_byte radio_number radio_state_of space_number space_of air_bytes air_decodes air_at transfer_byte bus_bytes is_bus bus_of bus_decodes bus_at host_bytes host_decodes host_at register_bytes registers_at mailbox_bytes mailbox_decodes mailbox_at password_bytes passwords_at bytes_of decodes tag_of select_refused ends fresher is_empty finished push parse bytes_sent replies accepted write_leg selected_leg leg_of last_leg legs_of transfer_of answer_number is_refused state_after step_call fill answered is_started acked_select notes_of opens when_closed note notes frame_answer end_answer when_open wait_act wait_step wait_run frames_fit is_radio shut_reply is_closed exported library_run in_numbers in_bytes library_struck EachLibraryStruck
runs = tt

-- ---- what is compared: of the last answer its number, and byte i of its buffer
unfoldable last_number : List LibraryAnswer → ℕ
last_number [] = 0
last_number (a ∷ []) = a.number
last_number (a ∷ b ∷ s) = last_number (b ∷ s)

unfoldable last_byte : ℕ → List LibraryAnswer → ℕ
last_byte i [] = 0
last_byte i (a ∷ []) = get_or a.buffer i 0
last_byte i (a ∷ b ∷ s) = last_byte i (b ∷ s)

-- ---- calls
-- 02 20 7F: block 127 is read
abbrev read : Call
read = frame (0x02 ∷ 0x20 ∷ 0x7F ∷ [])

-- a Start without a reply buffer
abbrev unbuffered : Call
unbuffered = record { buffer = []; code = 3; value = 0; frame = [] }

-- ---- one list for each; the hypotheses of the claim compute, and so do both sides of what it says
abbrev bytes : Device → List ℕ
bytes d = bytes_of d.tag

-- a start, from what computes
starts : {s m : List ℕ} → are_bytes s ≡ true → decodes s ≡ true → are_bytes m ≡ true → length m ≡ memory_bytes → tag_in_range (tag_of s) m ≡ true → transfer_open (tag_of s) ≡ false
    → Starts s m
starts a b c d e f = record { state = a; whole = b; memory = c; size = d; range = e; shut = f }

-- a tag whose bus is started: the next byte sent is a select
abbrev awaiting : Device
awaiting = powered but on_bus (Started None)

-- a frame between a select and its Stop
abbrev framed : List Call
framed = send 0xA6 ∷ read ∷ stop ∷ []

-- ---- `same`: the numbers
pub acks_stop_refuted : LibraryRefuted acks_stop
unfolding runs acks_stop last_number
acks_stop_refuted h =
    let f : ◌≡◌ {A = ℕ} 0x101 0x100 = ap (λ (r : LibraryRunResult). last_number r.answers) (h (bytes powered) powered.memory (stop ∷ []) (starts refl refl refl refl refl refl) refl refl).same in
    omega arith

pub refuses_by_3_refuted : LibraryRefuted refuses_by3
unfolding runs refuses_by3 last_number
refuses_by_3_refuted h =
    let f : ◌≡◌ {A = ℕ} 3 2 = ap (λ (r : LibraryRunResult). last_number r.answers) (h (bytes powered) powered.memory (unbuffered ∷ []) (starts refl refl refl refl refl refl) refl refl).same in
    omega arith

-- ---- `same`: the reply buffers
pub raises_reply_refuted : LibraryRefuted raises_reply
unfolding runs raises_reply last_byte
raises_reply_refuted h =
    let f : ◌≡◌ {A = ℕ} 1 0 = ap (λ (r : LibraryRunResult). last_byte 1 r.answers) (h (bytes powered) powered.memory (read ∷ []) (starts refl refl refl refl refl refl) refl refl).same in
    omega arith

pub writes_past_refuted : LibraryRefuted writes_past
unfolding runs writes_past last_byte
writes_past_refuted h =
    let f : ◌≡◌ {A = ℕ} 1 0 = ap (λ (r : LibraryRunResult). last_byte 642 r.answers) (h (bytes powered) powered.memory (read ∷ []) (starts refl refl refl refl refl refl) refl refl).same in
    omega arith

-- refuted here by `shut`; `same` sees it too
pub leaves_trace_refuted : LibraryRefuted leaves_trace
unfolding runs leaves_trace
leaves_trace_refuted h =
    let f : ◌≡◌ {A = ℕ} 1 0 = ap (λ (a : LibraryAnswer). get_or a.buffer 642 0) ((h (bytes awaiting) awaiting.memory framed (starts refl refl refl refl refl refl) refl refl).shut.1.0 refl).reply in
    omega arith

-- ---- `same`: the bytes at the end
pub keeps_state_refuted : LibraryRefuted keeps_state
unfolding runs keeps_state
keeps_state_refuted h =
    let f : ◌≡◌ {A = ℕ} 1 0 = ap (λ (r : LibraryRunResult). flag_byte (tag_of r.state).air.field) (h (bytes powered) powered.memory (field_to 0 ∷ []) (starts refl refl refl refl refl refl) refl refl).same in
    omega arith

pub codes_session_refuted : LibraryRefuted codes_session
unfolding runs codes_session coded decoded
codes_session_refuted h =
    let d = powered but i2c_session in
    let f : ◌≡◌ {A = ℕ} 2 1 = ap (λ (r : LibraryRunResult). get_or r.state session_place 0) (h (bytes d) d.memory (stop ∷ []) (starts refl refl refl refl refl refl) refl refl).same in
    omega arith

pub drops_page_byte_refuted : LibraryRefuted drops_page_byte
unfolding runs drops_page_byte
drops_page_byte_refuted h =
    let f : ◌≡◌ {A = ℕ} 0 1 = ap (λ (r : LibraryRunResult). get_or r.memory 768 0) (h (bytes awaiting) awaiting.memory (send 0xA6 ∷ send 0 ∷ send 0 ∷ send 1 ∷ stop ∷ []) (starts refl refl refl refl refl refl) refl refl).same in
    omega arith

-- ---- `shut`
-- by that list's answers and bytes at the end each of the three is right
marks_state_same : LibrarySame marks_state (bytes awaiting) awaiting.memory framed
unfolding runs marks_state supplied
marks_state_same = refl

pub marks_state_refuted : LibraryRefuted marks_state
unfolding runs marks_state supplied
marks_state_refuted h =
    let f : ◌≡◌ {A = ℕ} 0 1 = ap (λ (s : List ℕ). flag_byte (tag_of s).host.vcc) ((h (bytes awaiting) awaiting.memory framed (starts refl refl refl refl refl refl) refl refl).shut.1.0 refl).state in
    omega arith

marks_memory_same : LibrarySame marks_memory (bytes awaiting) awaiting.memory framed
unfolding runs marks_memory restored
marks_memory_same = refl

pub marks_memory_refuted : LibraryRefuted marks_memory
unfolding runs marks_memory restored
marks_memory_refuted h =
    let f : ◌≡◌ {A = ℕ} 256 0 = ap (λ (m : List ℕ). get_or m 1023 0) ((h (bytes awaiting) awaiting.memory framed (starts refl refl refl refl refl refl) refl refl).shut.1.0 refl).memory in
    omega arith

turns_field_same : LibrarySame turns_field (bytes awaiting) awaiting.memory framed
unfolding runs turns_field turned
turns_field_same = refl

-- error 0Fh, where the state that it stored has silence
pub turns_field_refuted : LibraryRefuted turns_field
unfolding runs turns_field turned
turns_field_refuted h =
    let f : ◌≡◌ {A = ℕ} 0x1004 0x103 = ap (λ (a : LibraryAnswer). a.number) ((h (bytes awaiting) awaiting.memory framed (starts refl refl refl refl refl refl) refl refl).shut.1.0 refl).reply in
    omega arith

-- ---- the start
pub i2c_session_refuted : LibraryRefuted (wrong_where (λ (t : Tag). t.host.session))
unfolding runs wrong_where last_number
i2c_session_refuted h =
    let d = powered but i2c_session in
    let f : ◌≡◌ {A = ℕ} 0x101 0x100 = ap (λ (r : LibraryRunResult). last_number r.answers) (h (bytes d) d.memory (programming_end ∷ []) (starts refl refl refl refl refl refl) refl refl).same in
    omega arith

pub programming_refuted : LibraryRefuted (wrong_where (λ (t : Tag). t.host.programming))
unfolding runs wrong_where last_number
programming_refuted h =
    let d = powered but being_programmed in
    let f : ◌≡◌ {A = ℕ} 0x101 0x100 = ap (λ (r : LibraryRunResult). last_number r.answers) (h (bytes d) d.memory (programming_end ∷ []) (starts refl refl refl refl refl refl) refl refl).same in
    omega arith

pub selected_refuted : LibraryRefuted (wrong_where (λ (t : Tag). is_selected t.air.radio))
unfolding runs wrong_where last_number
selected_refuted h =
    let d = powered but radio_state Selected in
    let f : ◌≡◌ {A = ℕ} 0x101 0x100 = ap (λ (r : LibraryRunResult). last_number r.answers) (h (bytes d) d.memory (programming_end ∷ []) (starts refl refl refl refl refl refl) refl refl).same in
    omega arith

pub radio_session_refuted : LibraryRefuted (wrong_where (λ (t : Tag). not (eqb t.air.session 0)))
unfolding runs wrong_where last_number
radio_session_refuted h =
    let d = powered but radio_session 1 in
    let f : ◌≡◌ {A = ℕ} 0x101 0x100 = ap (λ (r : LibraryRunResult). last_number r.answers) (h (bytes d) d.memory (programming_end ∷ []) (starts refl refl refl refl refl refl) refl refl).same in
    omega arith

pub started_refuted : LibraryRefuted (wrong_where (λ (t : Tag). is_active t.host.bus))
unfolding runs wrong_where last_number
started_refuted h =
    let d = awaiting in
    let f : ◌≡◌ {A = ℕ} 0x101 0x100 = ap (λ (r : LibraryRunResult). last_number r.answers) (h (bytes d) d.memory (programming_end ∷ []) (starts refl refl refl refl refl refl) refl refl).same in
    omega arith

pub message_refuted : LibraryRefuted (wrong_where (λ (t : Tag). ltb 0 t.core.mailbox.length))
unfolding runs wrong_where last_number
message_refuted h =
    let d = powered but host_message 1 true in
    let f : ◌≡◌ {A = ℕ} 0x101 0x100 = ap (λ (r : LibraryRunResult). last_number r.answers) (h (bytes d) d.memory (programming_end ∷ []) (starts refl refl refl refl refl refl) refl refl).same in
    omega arith

pub unsupplied_refuted : LibraryRefuted (wrong_where (λ (t : Tag). not t.host.vcc))
unfolding runs wrong_where last_number
unsupplied_refuted h =
    let d = device (fresh_tag uid) (zeros memory_bytes) in
    let f : ◌≡◌ {A = ℕ} 0x101 0x100 = ap (λ (r : LibraryRunResult). last_number r.answers) (h (bytes d) d.memory (programming_end ∷ []) (starts refl refl refl refl refl refl) refl refl).same in
    omega arith
