-- Tags that demand 3 shuts out, each by one list. Assumes nothing.
use Rattle.std.specs.Prelude.{None}
use mathlib.Core.Path.{◌≡◌, refl, sym, ap}
use mathlib.Core.Bool.{true, false, false≢true}
use mathlib.Core.List.{List, [], ◌∷◌, ◌++◌}
use Prim.Native.Nat.{ℕ, ◌+◌}
use native.Mathlib.Omega.{arith}
use lib.ListN.{get_or, replicate}
use Rattle.register_types.specs.Types.{rf_mngt}
use Rattle.registers.specs.Map.{with_dynamic}
use Rattle.air.specs.declared.RadioState.TheVariants.{Selected}
use Rattle.bus.specs.declared.Bus.TheVariants.{Started}
use Rattle.bus.specs.Bus.{is_open, page_bytes}
use Rattle.air.specs.Radio.{is_selected}
use Rattle.model.specs.declared.Answer.{Answer}
use Rattle.model.specs.declared.Answer.TheVariants.{Refused, Nothing, Ack, NoAck, Byte, Silence, Reply}
use Rattle.refusals.specs.Refusals.{number}
use Rattle.model.specs.Step.{is_reply}
use Rattle.refusals.specs.Call.{Call}
use Rattle.calls.specs.Calls.{CallAnswer, call_answer, Device, RunResult}
use Rattle.calls.specs.Examples.{vcc_to, start, send, stop, programming_end, frame, end_of_frame, zeros, powered, ◌but◌, radio_state, radio_session, slots_are, field_is, vcc_is, i2c_session, being_programmed, counter_at, on_bus, on_registers, mailbox_mode, host_message, bytes}
use Rattle.demand3.specs.Passed.{Waiting, no_transfer, inside}
use Rattle.wrong_tags.specs.Told.{by_same, by_judged, by_striking, by_unchanged, by_reply, WrongTag, Told, AllTold}
use Rattle.wrong_tags.specs.Wrong.{is_blank, feigning, reads_half, other_select, deselects, counts_inside, counts_down, counts_anew, commits_at_off, answers_from_leg, never_closes}
use Rattle.wrong_tags.specs.RepeatedStart.{is_data_leg, drops_at_start, acting_at_start, puts_at_start, writes_at_start, judging_as_it_stands, falls_asleep_at_once, wakes_at_once, keeping, keeping_anew, keeps_at_select, keeps_at_start, keeps_from_start}
use Rattle.wrong_tags.specs.Pinned.{misanswering, touching, stop_acked, refused_by_three, reply_byte_wrong, past_reply, refusal_touches, struck_touches, behind, session_past_range, clears_page, stop_out_of_range, is_user_write_leg, marks_frames, hides_field, wrong_tags, WrongTagsTold}
use Rattle.wrong_tags.proofs.Computes.{agrees}

-- ---- calls
-- a select for writing, and an address
abbrev at : ℕ → ℕ → List Call
at high low = start ∷ send 0xA6 ∷ send high ∷ send low ∷ []

-- 02 20 7F: block 127 is read
abbrev read : Call
read = frame (0x02 ∷ 0x20 ∷ 0x7F ∷ [])

-- 22 25 and a UID of zeros: a Select with another UID
abbrev select_other : Call
select_other = frame (0x22 ∷ 0x25 ∷ zeros 8)

-- password 0 presented, all zeros
abbrev present : Call
present = frame (0x02 ∷ 0xB3 ∷ 0x02 ∷ 0 ∷ zeros 8)

-- 02 A1 02 03 02: RF_MNGT gets its b1, with password 0's session open
abbrev sleep_by_radio : Call
sleep_by_radio = frame (0x02 ∷ 0xA1 ∷ 0x02 ∷ 0x03 ∷ 0x02 ∷ [])

-- RF_MNGT_Dyn has its b1
abbrev asleep : Device
asleep = powered but on_registers (with_dynamic (rf_mngt 2))

-- a Stop with a reply buffer of ten zeros
abbrev short_stop : Call
short_stop = record { buffer = zeros 10; code = 6; value = 0; frame = [] }

-- ---- what is compared: of the waiting tag, then of a run
unfoldable kept : Waiting → Device
kept (no_transfer out k) = k
kept (inside out k n sl) = k

unfoldable said_by_lem : Waiting → List CallAnswer
said_by_lem (no_transfer out k) = out
said_by_lem (inside out k n sl) = out

unfoldable code : Answer → ℕ
code (Refused why) = number why
code Nothing = 5
code Ack = 6
code NoAck = 7
code (Byte x) = 8
code Silence = 9
code (Reply n) = 10 + n

abbrev said_at : ℕ → List CallAnswer → CallAnswer
said_at i l = get_or l i (call_answer Nothing [])

-- the answer to call i, and byte j of its reply buffer
abbrev answer_to : ℕ → Waiting → ℕ
answer_to i w = code (said_at i (said_by_lem w)).answer

abbrev byte_to : ℕ → ℕ → Waiting → ℕ
byte_to i j w = get_or (said_at i (said_by_lem w)).buffer j 0

-- byte i of the memory that is left
abbrev byte_left : ℕ → Waiting → ℕ
byte_left i w = get_or (kept w).memory i 0

-- ---- `same`, the final tag and its bytes
-- two transfers write 1 to byte 0 and 2 to byte 1; the second is feigned
feigning_told : Told by_same feigning
unfolding agrees feigning is_blank kept
feigning_told h =
    let wire_calls = at 0 0 ++ send 1 ∷ stop ∷ programming_end ∷ [] ++ at 0 1 ++ send 2 ∷ stop ∷ [] in
    let f : ◌≡◌ {A = ℕ} 2 0 = ap (byte_left 1) (h powered wire_calls refl refl refl refl refl) in
    omega arith

-- byte 0 is sent and VCC fails
commits_at_off_told : Told by_same commits_at_off
unfolding agrees commits_at_off kept
commits_at_off_told h =
    let f : ◌≡◌ {A = ℕ} 0 1 = ap (byte_left 0) (h powered (at 0 0 ++ send 1 ∷ vcc_to 0 ∷ []) refl refl refl refl refl) in
    omega arith

clears_page_told : Told by_same clears_page
unfolding agrees clears_page kept
clears_page_told h =
    let f : ◌≡◌ {A = ℕ} 1 0 = ap (byte_left 768) (h powered (at 0 0 ++ send 1 ∷ stop ∷ []) refl refl refl refl refl) in
    omega arith

session_past_range_told : Told by_same session_past_range
unfolding agrees behind kept
session_past_range_told h =
    let f : ◌≡◌ {A = ℕ} 0 5 = ap (λ (w : Waiting). (kept w).tag.air.session) (h powered (stop ∷ []) refl refl refl refl refl) in
    omega arith

-- a Stop leaves no transfer open
never_closes_told : Told by_same never_closes
unfolding agrees never_closes kept
never_closes_told h =
    let f : false ≡ true = ap (λ (w : Waiting). is_open (kept w).tag.host.bus) (h powered (stop ∷ []) refl refl refl refl refl) in
    false≢true f

-- ---- `same`, the answers
stop_acked_told : Told by_same stop_acked
unfolding agrees misanswering said_by_lem code
stop_acked_told h =
    let f : ◌≡◌ {A = ℕ} 5 6 = ap (answer_to 0) (h powered (stop ∷ []) refl refl refl refl refl) in
    omega arith

refused_by_three_told : Told by_same refused_by_three
unfolding agrees misanswering said_by_lem code
refused_by_three_told h =
    let f : ◌≡◌ {A = ℕ} 2 3 = ap (answer_to 0) (h powered (short_stop ∷ []) refl refl refl refl refl) in
    omega arith

reply_byte_wrong_told : Told by_same reply_byte_wrong
unfolding agrees touching is_reply said_by_lem
reply_byte_wrong_told h =
    let f : ◌≡◌ {A = ℕ} 0 1 = ap (byte_to 0 1) (h powered (read ∷ []) refl refl refl refl refl) in
    omega arith

past_reply_told : Told by_same past_reply
unfolding agrees touching is_reply said_by_lem
past_reply_told h =
    let f : ◌≡◌ {A = ℕ} 0 1 = ap (byte_to 0 642) (h powered (read ∷ []) refl refl refl refl refl) in
    omega arith

refusal_touches_told : Told by_same refusal_touches
unfolding agrees touching said_by_lem
refusal_touches_told h =
    let f : ◌≡◌ {A = ℕ} 0 1 = ap (byte_to 0 0) (h powered (short_stop ∷ []) refl refl refl refl refl) in
    omega arith

-- ---- `judged`
stop_out_of_range_told : Told by_judged stop_out_of_range
unfolding agrees misanswering
stop_out_of_range_told h =
    let f : true ≡ false = h powered (stop ∷ []) refl refl refl refl refl in
    false≢true (sym f)

-- ---- `striking`: without the frame no radio session is open at the end
reads_half_told : Told by_striking reads_half
unfolding agrees reads_half
reads_half_told h =
    let f : ◌≡◌ {A = ℕ} 0 1 = ap (λ (r : RunResult). r.device.tag.air.session) (h powered (start ∷ send 0xA6 ∷ present ∷ stop ∷ []) refl refl refl refl refl) in
    omega arith

-- ---- `shut`, of the third call
-- the tag was Selected
deselects_told : Told by_unchanged deselects
unfolding agrees deselects other_select
deselects_told h =
    let wire_calls = start ∷ send 0xA6 ∷ select_other ∷ stop ∷ [] in
    let f : false ≡ true =
    ap (λ (d : Device). is_selected d.tag.air.radio) ((h (powered but radio_state Selected) wire_calls refl refl refl refl refl).1.1.0 refl) in
    false≢true f

-- it awaited slot 5
counts_down_told : Told by_unchanged counts_down
unfolding agrees counts_inside
counts_down_told h =
    let f : ◌≡◌ {A = ℕ} 4 5 =
    ap (λ (d : Device). d.tag.air.slots) ((h (powered but slots_are 5) (start ∷ send 0xA6 ∷ end_of_frame ∷ stop ∷ []) refl refl refl refl refl).1.1.0 refl) in
    omega arith

-- 06 01 00: sixteen slots and no mask, and the UID's lowest four bits are 1
counts_anew_told : Told by_unchanged counts_anew
unfolding agrees counts_inside
counts_anew_told h =
    let f : ◌≡◌ {A = ℕ} 1 0 =
    ap (λ (d : Device). d.tag.air.slots) ((h powered (start ∷ send 0xA6 ∷ frame (0x06 ∷ 0x01 ∷ 0x00 ∷ []) ∷ stop ∷ []) refl refl refl refl refl).1.1.0 refl) in
    omega arith

marks_frames_told : Told by_unchanged marks_frames
unfolding agrees behind is_user_write_leg
marks_frames_told h =
    let f : ◌≡◌ {A = ℕ} 300 0 =
    ap (λ (d : Device). page_bytes d.tag.host.bus) ((h powered (start ∷ send 0xA6 ∷ read ∷ stop ∷ []) refl refl refl refl refl).1.1.0 refl) in
    omega arith

hides_field_told : Told by_reply hides_field
unfolding agrees behind is_user_write_leg code
hides_field_told h =
    let f : ◌≡◌ {A = ℕ} 14 9 =
    ap (λ (a : CallAnswer). code a.answer) ((h powered (start ∷ send 0xA6 ∷ read ∷ stop ∷ []) refl refl refl refl refl).1.1.0 refl) in
    omega arith

struck_touches_told : Told by_reply struck_touches
unfolding agrees touching
struck_touches_told h =
    let f : ◌≡◌ {A = ℕ} 1 0 =
    ap (λ (a : CallAnswer). get_or a.buffer 642 0) ((h powered (start ∷ send 0xA6 ∷ read ∷ stop ∷ []) refl refl refl refl refl).1.1.0 refl) in
    omega arith

-- RF_MNGT_Dyn gets its b1 at the Stop; before it a frame is not silent
answers_from_leg_told : Told by_reply answers_from_leg
unfolding agrees answers_from_leg code
answers_from_leg_told h =
    let f : ◌≡◌ {A = ℕ} 9 14 =
    ap (λ (a : CallAnswer). code a.answer) ((h powered (at 0x20 0x03 ++ send 2 ∷ read ∷ stop ∷ []) refl refl refl refl refl).1.1.1.1.1.0 refl) in
    omega arith

-- ---- a repeated Start
-- RF_MNGT_Dyn gets its b0, and the transfer ends in a select that is not Acked
drops_at_start_told : Told by_same drops_at_start
unfolding agrees drops_at_start is_data_leg kept
drops_at_start_told h =
    let f : ◌≡◌ {A = ℕ} 1 0 = ap (λ (w : Waiting). (kept w).tag.core.registers.dynamic.bits) (h powered (at 0x20 0x03 ++ send 1 ∷ start ∷ send 0 ∷ []) refl refl refl refl refl) in
    omega arith

-- a message of one byte, with MB_EN set before
puts_at_start_told : Told by_same puts_at_start
unfolding agrees acting_at_start is_data_leg kept
puts_at_start_told h =
    let enable = at 0x20 0x06 ++ send 1 ∷ stop ∷ [] in
    let f : ◌≡◌ {A = ℕ} 0 1 = ap (λ (w : Waiting). (kept w).tag.core.mailbox.length) (h (powered but mailbox_mode 1) (enable ++ at 0x20 0x08 ++ send 7 ∷ start ∷ stop ∷ []) refl refl refl refl refl) in
    omega arith

writes_at_start_told : Told by_same writes_at_start
unfolding agrees acting_at_start is_data_leg kept
writes_at_start_told h =
    let f : ◌≡◌ {A = ℕ} 0 1 = ap (byte_left 0) (h powered (at 0 0 ++ send 1 ∷ start ∷ stop ∷ []) refl refl refl refl refl) in
    omega arith

-- a frame after a leg that sets sleep and a Start: 0Fh still
falls_asleep_told : Told by_reply falls_asleep_at_once
unfolding agrees judging_as_it_stands code
falls_asleep_told h =
    let f : ◌≡◌ {A = ℕ} 9 14 =
    ap (λ (a : CallAnswer). code a.answer) ((h powered (at 0x20 0x03 ++ send 2 ∷ start ∷ read ∷ stop ∷ []) refl refl refl refl refl).1.1.1.1.1.1.0 refl) in
    omega arith

-- a frame after a leg that clears it: silence still
wakes_told : Told by_reply wakes_at_once
unfolding agrees judging_as_it_stands code
wakes_told h =
    let f : ◌≡◌ {A = ℕ} 14 9 =
    ap (λ (a : CallAnswer). code a.answer) ((h asleep (at 0x20 0x03 ++ send 0 ∷ start ∷ read ∷ stop ∷ []) refl refl refl refl refl).1.1.1.1.1.1.0 refl) in
    omega arith

-- and so after the next select
keeps_at_select_told : Told by_reply keeps_at_select
unfolding agrees keeping_anew keeping code
keeps_at_select_told h =
    let f : ◌≡◌ {A = ℕ} 9 14 =
    ap (λ (a : CallAnswer). code a.answer) ((h powered (at 0x20 0x03 ++ send 2 ∷ start ∷ send 0xA6 ∷ read ∷ stop ∷ []) refl refl refl refl refl).1.1.1.1.1.1.1.0 refl) in
    omega arith

keeps_at_start_told : Told by_reply keeps_at_start
unfolding agrees keeping_anew keeping code
keeps_at_start_told h =
    let f : ◌≡◌ {A = ℕ} 9 14 =
    ap (λ (a : CallAnswer). code a.answer) ((h powered (at 0x20 0x03 ++ send 2 ∷ start ∷ read ∷ stop ∷ []) refl refl refl refl refl).1.1.1.1.1.1.0 refl) in
    omega arith

-- between Start and select the radio writes RF_MNGT, and so RF_MNGT_Dyn: silence in the transfer
keeps_from_start_told : Told by_reply keeps_from_start
unfolding agrees keeps_from_start keeping code
keeps_from_start_told h =
    let f : ◌≡◌ {A = ℕ} 14 9 =
    ap (λ (a : CallAnswer). code a.answer) ((h (powered but radio_session 1) (start ∷ sleep_by_radio ∷ send 0xA6 ∷ read ∷ stop ∷ []) refl refl refl refl refl).1.1.1.0 refl) in
    omega arith

-- ---- the starting tag: a programming end is answered
waiting_mail : Device
waiting_mail = powered but mailbox_mode 1 but host_message 9 true but bytes [] (replicate 9 0x11) []

ends_in_ack : {o : List ℕ} {d e : Device} → no_transfer (call_answer Nothing o ∷ []) d ≡ no_transfer (call_answer Ack o ∷ []) e → ⊥
unfolding said_by_lem code
ends_in_ack h = let f : ◌≡◌ {A = ℕ} 5 6 = ap (answer_to 0) h in omega arith

-- ---- the claim
infixr 20 ◌also◌
data Tellings : List WrongTag → Type 0 where
  no_more : Tellings []
  ◌also◌ : {w : WrongTag} {ws : List WrongTag} → Told w.part w.step → Tellings ws → Tellings (w ∷ ws)

all_told : {ws : List WrongTag} → Tellings ws → AllTold ws
unfolding AllTold
all_told no_more = tt
all_told (t also ts) = (t, all_told ts)

tellings : Tellings wrong_tags
unfolding agrees misanswering said_by_lem code waiting_mail
tellings =
    feigning_told
    also reads_half_told
    also deselects_told
    also counts_down_told
    also counts_anew_told
    also commits_at_off_told
    also answers_from_leg_told
    also never_closes_told
    also stop_acked_told
    also refused_by_three_told
    also reply_byte_wrong_told
    also past_reply_told
    also refusal_touches_told
    also struck_touches_told
    also session_past_range_told
    also clears_page_told
    also stop_out_of_range_told
    also marks_frames_told
    also hides_field_told
    also (λ h. ends_in_ack (h (waiting_mail but i2c_session) (programming_end ∷ []) refl refl refl refl refl))
    also (λ h. ends_in_ack (h (powered but being_programmed) (programming_end ∷ []) refl refl refl refl refl))
    also (λ h. ends_in_ack (h (powered but field_is false but radio_state Selected) (programming_end ∷ []) refl refl refl refl refl))
    also (λ h. ends_in_ack (h (powered but field_is false but radio_session 1) (programming_end ∷ []) refl refl refl refl refl))
    also (λ h. ends_in_ack (h (powered but on_bus (Started None)) (programming_end ∷ []) refl refl refl refl refl))
    also (λ h. ends_in_ack (h waiting_mail (programming_end ∷ []) refl refl refl refl refl))
    also (λ h. ends_in_ack (h (powered but vcc_is false but counter_at 5) (programming_end ∷ []) refl refl refl refl refl))
    also drops_at_start_told
    also puts_at_start_told
    also writes_at_start_told
    also falls_asleep_told
    also wakes_told
    also keeps_at_select_told
    also keeps_at_start_told
    also keeps_from_start_told
    also no_more

pub wrong_tags_told : WrongTagsTold
wrong_tags_told = all_told tellings
