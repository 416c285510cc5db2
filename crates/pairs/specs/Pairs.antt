-- "Pairs either side of an edge. Frames without CRC, from a fresh powered tag in the field."
use Rattle.std.specs.Prelude.{◌≡◌, true, false, List, [], ◌∷◌, ◌++◌, ℕ, replicate, take}
use Rattle.air.specs.declared.RadioState.TheVariants.{Ready}
use Rattle.bus.specs.declared.Space.TheVariants.{User}
use Rattle.register_types.specs.Types.{rf_mngt}
use Rattle.bus.specs.declared.OpenTransfer.{OpenTransfer}
use Rattle.bus.specs.declared.Bus.TheVariants.{WriteLeg, DataLeg}
use Rattle.tag.specs.Layout.{memory_bytes}
use Rattle.tag.specs.Supply.{fresh_tag}
use Rattle.crc.specs.Crc.{crc_of, closed}
use Rattle.model.specs.declared.Answer.{Answer}
use Rattle.refusals.specs.declared.Refusal.{Refusal}
use Rattle.model.specs.declared.Answer.TheVariants.{Refused, Nothing, Ack, NoAck, Byte, Silence, Reply}
use Rattle.refusals.specs.Call.{Call}
use Rattle.calls.specs.Calls.{CallAnswer, Device, device, RunResult, entry, run_by}
use Rattle.calls.specs.Examples.{zeros, vcc_to, field_to, start, send, sends, fetch, fetch_last, stop, programming_end, frame, uid, powered, ◌but◌, radio_state, radio_session, i2c_session, being_programmed, counter_at, on_bus, area_ends, area_rights, mailbox_mode, host_message, bytes}

-- ---- answers by value: a reply is its bytes, CRC included
pub data Value : Type 0 where
  refused_with : Refusal → Value
  no_answer : Value
  ack : Value
  no_ack : Value
  fetched_byte : ℕ → Value
  silence : Value
  replied : List ℕ → Value

unfoldable pub value_of : Answer → List ℕ → Value
value_of (Refused refusal) o = refused_with refusal
value_of Nothing o = no_answer
value_of Ack o = ack
value_of NoAck o = no_ack
value_of (Byte x) o = fetched_byte x
value_of Silence o = silence
value_of (Reply n) o = replied (take n o)

unfoldable pub values : List CallAnswer → List Value
values [] = []
values (answer ∷ answers) = value_of answer.answer answer.buffer ∷ values answers

-- a reply of these bytes and their CRC
abbrev pub reply : List ℕ → Value
reply s = replied (closed s)

-- ---- what a pair says
-- the answers to a list of calls, and the tag that it leaves: state and all 1,024 bytes
pub record Result : Type 0 where
  pub answers : List Value
  pub leaves : Device

abbrev pub result_of : RunResult → Result
result_of result = record { answers = values result.answers; leaves = result.device }

pub record Part : Type 0 where
  pub calls : List Call
  pub result : Result

abbrev pub part : List Call → List Value → Device → Part
part calls values d = record { calls = calls; result = record { answers = values; leaves = d } }

pub data Pair : Type 0 where
  crc_is : List ℕ → ℕ → Pair
  goes : List Part → Pair

-- the parts of a pair, each from the tag that the one before it leaves
unfoldable pub HoldFrom : Device → List Part → Type 0
HoldFrom d [] = Unit {0}
HoldFrom d (p ∷ ps) = (result_of (run_by entry d p.calls) ≡ p.result) × HoldFrom p.result.leaves ps

-- the fresh tag gets VCC and field first
abbrev pub fresh_device : Device
fresh_device = device (fresh_tag uid) (zeros memory_bytes)

abbrev pub supplies : Part
supplies = part (vcc_to 1 ∷ field_to 1 ∷ []) (no_answer ∷ no_answer ∷ []) powered

unfoldable pub Holds : Pair → Type 0
Holds (crc_is s n) = crc_of s ≡ n
Holds (goes ps) = HoldFrom fresh_device (supplies ∷ ps)

unfoldable pub AllHold : List Pair → Type 0
AllHold [] = Unit {0}
AllHold (p ∷ ps) = Holds p × AllHold ps

-- ---- parts that several pairs begin with
-- password n presented by radio, all zeros
abbrev pub present : ℕ → Call
present n = frame (0x02 ∷ 0xB3 ∷ 0x02 ∷ n ∷ zeros 8)

-- a register written by radio
abbrev pub config : ℕ → ℕ → Call
config pointer x = frame (0x02 ∷ 0xA1 ∷ 0x02 ∷ pointer ∷ x ∷ [])

abbrev pub good_reply : Value
good_reply = reply (0x00 ∷ [])

abbrev pub error : ℕ → Value
error code = reply (0x01 ∷ code ∷ [])

abbrev pub read_block : ℕ → Call
read_block x = frame (0x02 ∷ 0x20 ∷ x ∷ [])

-- a block of zeros
abbrev pub block : Value
block = reply (0x00 ∷ zeros 4)

-- a leg's first three bytes: write select, address
abbrev pub at : ℕ → ℕ → ℕ → List Call
at select high low = start ∷ send select ∷ send high ∷ send low ∷ []

abbrev pub acks : List Value
acks = no_answer ∷ ack ∷ ack ∷ ack ∷ []

-- a transfer that began with RF_MNGT_Dyn 0
abbrev pub begun : OpenTransfer
begun = record { dynamic = rf_mngt 0 }

-- ---- 1. "CRC of ASCII 123456789 is 906Eh."
abbrev pub pair1 : Pair
pair1 = crc_is (0x31 ∷ 0x32 ∷ 0x33 ∷ 0x34 ∷ 0x35 ∷ 0x36 ∷ 0x37 ∷ 0x38 ∷ 0x39 ∷ []) 0x906E

-- 2. "02 20 7F: 00 and four zeros. 02 20 80: 01 10."
abbrev pub pair2 : Pair
pair2 = goes (part (read_block 0x7F ∷ read_block 0x80 ∷ []) (block ∷ error 0x10 ∷ []) powered ∷ [])

-- 3. "ENDA1 0: 02 23 07 00 gives block 7; 02 23 07 01 gives 01 0F."
abbrev pub first_end0 : Device
first_end0 = powered but radio_session 1 but area_ends 0 0x0F 0x0F

abbrev pub set_first_end : Part
set_first_end = part (present 0 ∷ config 0x05 0 ∷ []) (good_reply ∷ good_reply ∷ []) first_end0

abbrev pub pair3 : Pair
pair3 = goes (set_first_end
    ∷ part (frame (0x02 ∷ 0x23 ∷ 0x07 ∷ 0x00 ∷ []) ∷ frame (0x02 ∷ 0x23 ∷ 0x07 ∷ 0x01 ∷ []) ∷ []) (block ∷ error 0x0F ∷ []) first_end0
    ∷ [])

-- 4. "Then ENDA2 0 refused; 1 accepted.": by radio, and by wire
abbrev pub pair4 : Pair
pair4 = goes (set_first_end
    ∷ part (config 0x07 0 ∷ []) (error 0x0F ∷ []) first_end0
    ∷ part (config 0x07 1 ∷ []) (good_reply ∷ []) (first_end0 but area_ends 0 1 0x0F)
    ∷ [])

-- the session opens; each byte sent stands in the page, the code 09h in place 8
abbrev pub session_open : Device
session_open = powered but i2c_session but counter_at 0x0911 but bytes [] [] (zeros 8 ++ 0x09 ∷ [])

abbrev pub present_i2c : Part
present_i2c = part (at 0xAE 0x09 0x00 ++ sends (zeros 8 ++ 0x09 ∷ zeros 8) ++ stop ∷ []) (acks ++ replicate 17 ack ++ no_answer ∷ []) session_open

abbrev pub first_end0wire : Device
first_end0wire = session_open but area_ends 0 0x0F 0x0F

abbrev pub pair4wire : Pair
pair4wire = goes (present_i2c
    ∷ part (at 0xAE 0x00 0x05 ++ send 0 ∷ stop ∷ programming_end ∷ []) (acks ++ ack ∷ no_answer ∷ no_answer ∷ []) (first_end0wire but counter_at 0x0006)
    ∷ part (at 0xAE 0x00 0x07 ++ send 0 ∷ stop ∷ []) (acks ++ no_ack ∷ no_answer ∷ []) (first_end0wire but counter_at 0x0007)
    ∷ part (at 0xAE 0x00 0x07 ++ send 1 ∷ stop ∷ []) (acks ++ ack ∷ no_answer ∷ [])
    (first_end0wire but area_ends 0 1 0x0F but being_programmed but counter_at 0x0008 but bytes [] [] (1 ∷ zeros 7 ++ 0x09 ∷ []))
    ∷ [])

-- 5. "RFA2SS 09h, ENDA1 0: block 8 gives 15h; after password 1, data; Present 4 changes nothing; after password 2, 15h."
abbrev pub protected : Device
protected = powered but area_rights 0 0x09 0 0 but area_ends 0 0x0F 0x0F

abbrev pub pair5 : Pair
pair5 = goes (part (present 0 ∷ config 0x06 0x09 ∷ config 0x05 0 ∷ read_block 8 ∷ []) (good_reply ∷ good_reply ∷ good_reply ∷ error 0x15 ∷ []) (protected but radio_session 1)
    ∷ part (present 1 ∷ read_block 8 ∷ []) (good_reply ∷ block ∷ []) (protected but radio_session 2)
    ∷ part (present 4 ∷ []) (error 0x10 ∷ []) (protected but radio_session 2)
    ∷ part (read_block 8 ∷ present 2 ∷ read_block 8 ∷ []) (block ∷ good_reply ∷ error 0x15 ∷ []) (protected but radio_session 3)
    ∷ [])

-- 6. "RFA1SS 09h: block 0 readable."
abbrev pub pair6 : Pair
pair6 = goes (part (present 0 ∷ config 0x04 0x09 ∷ read_block 0 ∷ []) (good_reply ∷ good_reply ∷ block ∷ []) (powered but radio_session 1 but area_rights 0x09 0 0 0) ∷ [])

-- 7. "02 2C 7E 05: 00 00 00."
abbrev pub pair7 : Pair
pair7 = goes (part (frame (0x02 ∷ 0x2C ∷ 0x7E ∷ 0x05 ∷ []) ∷ []) (reply (0x00 ∷ 0x00 ∷ 0x00 ∷ []) ∷ []) powered ∷ [])

-- 8. "Two bytes at 01FFh: Ack, NoAck; nothing written.": the first one stands in the page
abbrev pub pair8 : Pair
pair8 = goes (part (at 0xA6 0x01 0xFF ++ send 0x5A ∷ send 0xA5 ∷ stop ∷ []) (acks ++ ack ∷ no_ack ∷ no_answer ∷ [])
    (powered but counter_at 0x0200 but bytes [] [] (0x5A ∷ []))
    ∷ [])

-- 9. "256 bytes at 0: all Acked; a 257th spoils the leg.": with a Stop after each
abbrev pub filled_page : Device
filled_page = powered but counter_at 0x0100 but bytes [] [] (replicate 256 0x5A)

abbrev pub fill_page : Part
fill_page = part (at 0xA6 0x00 0x00 ++ sends (replicate 256 0x5A)) (acks ++ replicate 256 ack) (filled_page but on_bus (DataLeg begun User 256 false))

abbrev pub pair9 : Pair
pair9 = goes (fill_page
    ∷ part (stop ∷ []) (no_answer ∷ []) (filled_page but being_programmed but bytes (replicate 256 0x5A) [] (replicate 256 0x5A))
    ∷ [])

-- spoiled: nothing written
abbrev pub pair9more : Pair
pair9more = goes (fill_page
    ∷ part (send 0x5A ∷ []) (no_ack ∷ []) (filled_page but on_bus (DataLeg begun User 256 true))
    ∷ part (stop ∷ []) (no_answer ∷ []) filled_page
    ∷ [])

-- 10. "A 3-byte host message: AC 02 at 02,00 gives its last byte; at 03,00 and FF,00 01 0F.": reading the last byte clears HOST_PUT
abbrev pub read_message : ℕ → ℕ → Call
read_message pointer n = frame (0x02 ∷ 0xAC ∷ 0x02 ∷ pointer ∷ n ∷ [])

abbrev pub message : List ℕ
message = 0x11 ∷ 0x22 ∷ 0x33 ∷ []

abbrev pub mailed : Device
mailed = powered but radio_session 1 but mailbox_mode 1 but counter_at 0x200B but bytes [] message message

abbrev pub pair10 : Pair
pair10 = goes (part (present 0 ∷ config 0x0D 1 ∷ []) (good_reply ∷ good_reply ∷ []) (powered but radio_session 1 but mailbox_mode 1)
    ∷ part (at 0xA6 0x20 0x06 ++ send 0x01 ∷ stop ∷ [] ++ at 0xA6 0x20 0x08 ++ sends message ++ stop ∷ [])
    (acks ++ ack ∷ no_answer ∷ [] ++ acks ++ replicate 3 ack ++ no_answer ∷ []) (mailed but host_message 3 true)
    ∷ part (read_message 0x02 0x00 ∷ []) (reply (0x00 ∷ 0x33 ∷ []) ∷ []) (mailed but host_message 3 false)
    ∷ part (read_message 0x03 0x00 ∷ read_message 0xFF 0x00 ∷ []) (error 0x0F ∷ error 0x0F ∷ []) (mailed but host_message 3 false)
    ∷ [])

-- 11. "Fetch at FFFFh: FFh, then byte 0.": byte 0 is written first
abbrev pub byte_written : Device
byte_written = powered but counter_at 0x0001 but bytes (0x5A ∷ []) [] (0x5A ∷ [])

abbrev pub pair11 : Pair
pair11 = goes (part (at 0xA6 0x00 0x00 ++ send 0x5A ∷ stop ∷ programming_end ∷ []) (acks ++ ack ∷ no_answer ∷ no_answer ∷ []) byte_written
    ∷ part (at 0xA6 0xFF 0xFF ++ start ∷ send 0xA7 ∷ fetch ∷ fetch_last ∷ stop ∷ []) (acks ++ no_answer ∷ ack ∷ fetched_byte 0xFF ∷ fetched_byte 0x5A ∷ no_answer ∷ []) byte_written
    ∷ [])

-- 12. "Stay Quiet, addressed, in an open transfer: silence, still Ready."
abbrev pub stay_quiet : Call
stay_quiet = frame (0x22 ∷ 0x02 ∷ uid.bytes)

abbrev pub pair12 : Pair
pair12 = goes (part (start ∷ send 0xA6 ∷ stay_quiet ∷ []) (no_answer ∷ ack ∷ silence ∷ []) (powered but radio_state Ready but on_bus (WriteLeg begun User))
    ∷ part (stop ∷ read_block 0 ∷ []) (no_answer ∷ block ∷ []) powered
    ∷ [])

-- ---- all twelve
abbrev pub twelve : List Pair
twelve = pair1 ∷ pair2 ∷ pair3 ∷ pair4 ∷ pair4wire ∷ pair5 ∷ pair6 ∷ pair7 ∷ pair8 ∷ pair9 ∷ pair9more ∷ pair10 ∷ pair11 ∷ pair12 ∷ []

abbrev pub Twelve : Type 0
Twelve = AllHold twelve
