-- For each part of the claim a tag that this part tells, and of those that do not follow from `same` only this part (demand3_parts/specs):
-- a claim that lacked the part would let the tag through. Last, the claim that each wrong tag is told by its part.
use Rattle.std.specs.Prelude.{Bool, true, false, not, ◌&&◌, ◌||◌, List, [], ◌∷◌, ◌++◌, ℕ, ◌+◌, ◌-◌, eqb, ltb, get_or, set, take}
use Rattle.parts.specs.Pick.{pick}
use Rattle.bus.specs.declared.Space.TheVariants.{User, System}
use Rattle.bus.specs.declared.OpenTransfer.{OpenTransfer}
use Rattle.bus.specs.declared.Bus.{Bus}
use Rattle.bus.specs.declared.Bus.TheVariants.{Idle, Started, ReadLeg, WriteLeg, LowAddress, DataLeg}
use Rattle.tag.specs.Layout.{mailbox_place, page_place}
use Rattle.bus.specs.Bus.{kept_of, transfer_at, page_bytes}
use Rattle.air.specs.Radio.{is_selected}
use Rattle.refusals.specs.declared.Refusal.TheVariants.{SignalUnknown, OutOfRange}
use Rattle.model.specs.declared.Answer.{Answer}
use Rattle.model.specs.declared.Answer.TheVariants.{Refused, Ack}
use Rattle.model.specs.Step.{transfer_open, is_refused, is_reply}
use Rattle.refusals.specs.Call.{Call}
use Rattle.calls.specs.Calls.{CallAnswer, call_answer, Device, device, DeviceResult, device_result, Step, entry}
use Rattle.calls.specs.Examples.{zeros, on_bus, field_is, radio_session, ◌but◌}
use Rattle.demand3.specs.Passed.{is_started}
use Rattle.demand3.specs.Demand3.{struck}
use Rattle.wrong_tags.specs.Wrong.{feigning, reads_half, deselects, counts_down, counts_anew, commits_at_off, answers_from_leg, never_closes}
use Rattle.wrong_tags.specs.RepeatedStart.{drops_at_start, puts_at_start, writes_at_start, falls_asleep_at_once, wakes_at_once, keeps_at_select, keeps_at_start, keeps_from_start}
use Rattle.wrong_tags.specs.Told.{by_same, by_judged, by_striking, by_unchanged, by_reply, WrongTag, told_by, AllTold}

-- ---- `same`, the answers: one thing said otherwise where the test holds of the tag, the call and what is right to say
abbrev pub When : Type 0
When = Device → Call → CallAnswer → Bool

-- another answer and no byte
unfoldable pub misanswering : When → Answer → Device → Call → DeviceResult
misanswering when answer d call =
    let result = entry d call in
    device_result (pick (when d call result.says) (call_answer answer result.says.buffer) result.says) result.device

-- byte i of the reply buffer and no answer
unfoldable pub touching : When → ℕ → Device → Call → DeviceResult
touching when i d call =
    let result = entry d call in
    let o = result.says.buffer in
    device_result (pick (when d call result.says) (call_answer result.says.answer (set o i (get_or o i 0 + 1))) result.says) result.device

abbrev pub if_stop : When
if_stop d call answer = eqb call.code 6

abbrev pub if_refused : When
if_refused d call answer = is_refused answer.answer

-- with no transfer open: a struck frame's reply is `shut`'s too
abbrev pub if_replying : When
if_replying d call answer = not (transfer_open d.tag) && is_reply answer.answer

-- a Stop has an answer; a refusal has another number
abbrev pub stop_acked : Step
stop_acked = misanswering if_stop Ack

abbrev pub refused_by_three : Step
refused_by_three = misanswering if_refused (Refused SignalUnknown)

-- a byte of the reply; the last one of 643, which is past it; a byte of a refused call's buffer; a struck frame's trace past its reply
abbrev pub reply_byte_wrong : Step
reply_byte_wrong = touching if_replying 1

abbrev pub past_reply : Step
past_reply = touching if_replying 642

abbrev pub refusal_touches : Step
refusal_touches = touching if_refused 0

abbrev pub struck_touches : Step
struck_touches = touching (λ (d : Device) (call : Call) (answer : CallAnswer). struck entry d call) 642

-- ---- `same`, the final tag: every answer is right, but not what is left
-- a tag that acts as the one that it shows, and keeps another
unfoldable pub behind : (Device → Device) → (Call → Device → Device) → Device → Call → DeviceResult
behind shows keeps d call =
    let result = entry (shows d) call in
    device_result result.says (keeps call result.device)

-- its radio session is 5 too high after a Stop; it takes such a one as 5 less
abbrev pub session_shown : Device → Device
session_shown d = pick (ltb 4 d.tag.air.session) (d but radio_session (d.tag.air.session - 5)) d

abbrev pub session_raised : Call → Device → Device
session_raised call d = pick (eqb call.code 6) (d but radio_session (d.tag.air.session + 5)) d

abbrev pub session_past_range : Step
session_past_range = behind session_shown session_raised

-- a Stop clears the page, on which no later answer depends
unfoldable pub clears_page : Device → Call → DeviceResult
clears_page d call =
    let result = entry d call in
    device_result result.says (device result.device.tag (pick (eqb call.code 6) (take page_place result.device.memory ++ zeros 256) result.device.memory))

-- ---- `judged`: a Stop is refusal 4
abbrev pub stop_out_of_range : Step
stop_out_of_range = misanswering if_stop (Refused OutOfRange)

-- ---- `striking`: `reads_half`, by a frame that opens a radio session

-- ---- `shut`: what a tag keeps while a transfer is open no list of answers shows, and no final tag.
-- A mark in place of the bus after a write select: no tag in range has 300 page bytes.
abbrev pub mark : OpenTransfer → Bus
mark kept = DataLeg kept User 300 true

-- what it keeps of the transfer
abbrev pub kept_by : Device → OpenTransfer
kept_by d = kept_of (transfer_at d.tag.host.bus) d.tag.core.registers.dynamic

abbrev pub is_marked : Device → Bool
is_marked d = eqb (page_bytes d.tag.host.bus) 300

unfoldable pub is_user_write_leg : Bus → Bool
is_user_write_leg Idle = false
is_user_write_leg (Started transfer) = false
is_user_write_leg (ReadLeg kept space over last) = false
is_user_write_leg (WriteLeg kept User) = true
is_user_write_leg (WriteLeg kept System) = false
is_user_write_leg (LowAddress kept space high) = false
is_user_write_leg (DataLeg kept space count spoiled) = false

-- `unchanged`: a frame right after that select leaves the mark
abbrev pub without_mark : Device → Device
without_mark d = pick (is_marked d) (d but on_bus (WriteLeg (kept_by d) User)) d

abbrev pub frame_marked : Call → Device → Device
frame_marked call d = pick (eqb call.code 8 && is_user_write_leg d.tag.host.bus) (d but on_bus (mark (kept_by d))) d

abbrev pub marks_frames : Step
marks_frames = behind without_mark frame_marked

-- `reply`: right after that select its tag has the field off, and it answers as one in the field
abbrev pub in_field_again : Device → Device
in_field_again d = pick (is_marked d) (d but on_bus (WriteLeg (kept_by d) User) but field_is true) d

abbrev pub field_hidden : Call → Device → Device
field_hidden call d = pick (d.tag.air.field && is_user_write_leg d.tag.host.bus) (d but on_bus (mark (kept_by d)) but field_is false) d

abbrev pub hides_field : Step
hides_field = behind in_field_again field_hidden

-- ---- the starting tag: wrong in one corner alone, where every call is answered with Ack
abbrev pub wrong_in : (Device → Bool) → Step
wrong_in corner = misanswering (λ (d : Device) (call : Call) (answer : CallAnswer). corner d) Ack

-- A claim that began from fewer tags would excuse each of them: no list leads into the corner from a tag that has no programming under way,
-- is not Selected, and so on. The reason stands beside each (it is not proved).
-- every write that starts programming leaves the counter above 0
abbrev pub programming_at_zero : Device → Bool
programming_at_zero d = d.tag.host.programming && eqb d.tag.host.counter 0

-- field off makes the tag Ready and closes the radio session
abbrev pub selected_outside : Device → Bool
selected_outside d = is_selected d.tag.air.radio && not d.tag.air.field

abbrev pub session_outside : Device → Bool
session_outside d = ltb 0 d.tag.air.session && not d.tag.air.field

-- VCC off sets the counter to 0
abbrev pub counter_unpowered : Device → Bool
counter_unpowered d = not d.tag.host.vcc && ltb 0 d.tag.host.counter

-- while a host message of nine bytes or more waits for the till, the page's place 8 has its byte 8, or the code 09h of a password leg since
abbrev pub mail_not_in_page : Device → Bool
mail_not_in_page d =
    let page = get_or d.memory (page_place + 8) 0 in
    d.tag.core.mailbox.host.put
    && ltb 8 d.tag.core.mailbox.length
    && not (eqb page (get_or d.memory (mailbox_place + 8) 0) || eqb page 0x09)

-- and that leg would have opened the I2C session
abbrev pub session_beside_mail : Device → Bool
session_beside_mail d = d.tag.host.session && mail_not_in_page d

-- but for this one: a Start leads to every tag whose bus is started
abbrev pub bus_started : Device → Bool
bus_started d = is_started d.tag.host.bus

-- ---- all of them, each with the part that tells it
abbrev pub wrong_tags : List WrongTag
wrong_tags = told_by by_same feigning ∷ told_by by_striking reads_half ∷ told_by by_unchanged deselects
    ∷ told_by by_unchanged counts_down ∷ told_by by_unchanged counts_anew
    ∷ told_by by_same commits_at_off ∷ told_by by_reply answers_from_leg ∷ told_by by_same never_closes
    ∷ told_by by_same stop_acked ∷ told_by by_same refused_by_three ∷ told_by by_same reply_byte_wrong
    ∷ told_by by_same past_reply ∷ told_by by_same refusal_touches ∷ told_by by_reply struck_touches
    ∷ told_by by_same session_past_range ∷ told_by by_same clears_page ∷ told_by by_judged stop_out_of_range
    ∷ told_by by_unchanged marks_frames ∷ told_by by_reply hides_field
    ∷ told_by by_same (wrong_in session_beside_mail) ∷ told_by by_same (wrong_in programming_at_zero)
    ∷ told_by by_same (wrong_in selected_outside) ∷ told_by by_same (wrong_in session_outside)
    ∷ told_by by_same (wrong_in bus_started) ∷ told_by by_same (wrong_in mail_not_in_page)
    ∷ told_by by_same (wrong_in counter_unpowered)
    ∷ told_by by_same drops_at_start ∷ told_by by_same puts_at_start ∷ told_by by_same writes_at_start
    ∷ told_by by_reply falls_asleep_at_once ∷ told_by by_reply wakes_at_once
    ∷ told_by by_reply keeps_at_select ∷ told_by by_reply keeps_at_start ∷ told_by by_reply keeps_from_start ∷ []

abbrev pub WrongTagsTold : Type 0
WrongTagsTold = AllTold wrong_tags
