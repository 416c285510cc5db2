-- Calls and tags to write lists with: for the twelve pairs and the wrong tags. No step is run here.
use Rattle.std.specs.Prelude.{Bool, true, List, [], ◌∷◌, ◌++◌, ℕ, ◌-◌, length, replicate}
use Rattle.registers.specs.declared.Registers.{Registers}
use Rattle.registers.specs.Map.{written}
use Rattle.air.specs.declared.RadioState.{RadioState}
use Rattle.air.specs.declared.RadioState.TheVariants.{Ready}
use Rattle.air.specs.declared.Air.{Air}
use Rattle.bus.specs.declared.Bus.{Bus}
use Rattle.tag.specs.declared.Host.{Host}
use Rattle.tag.specs.declared.Core.{Core}
use Rattle.keys.specs.declared.Uid.{Uid}
use Rattle.tag.specs.Supply.{fresh_tag}
use Rattle.tag.specs.Layout.{user_bytes, memory_bytes, reply_bytes}
use Rattle.air.specs.Parts.{with_field, with_state, with_radio_session, with_slots}
use Rattle.tag.specs.Parts.{with_vcc, with_i2c_session, with_programming, with_counter, with_tag_host, with_tag_core, with_bus, with_registers, with_mailbox, with_tag_air}
use Rattle.mailbox.specs.Parts.{with_put, with_enabled, with_host_message, with_length}
use Rattle.mailbox.specs.Mailbox.{empty_mailbox, put_message}
use Rattle.crc.specs.Crc.{closed}
use Rattle.model.specs.Passed.{Call, handed_in}
use Rattle.calls.specs.Calls.{Device, device}

abbrev pub zeros : ℕ → List ℕ
zeros n = replicate n 0

-- ---- calls, by the codes of signal_table/specs/Table, each with a reply buffer of 643 zeros
abbrev pub call_of : ℕ → ℕ → List ℕ → Call
call_of code value f = handed_in (zeros reply_bytes) code value f

-- VCC and the field, 0 or 1
abbrev pub vcc_to : ℕ → Call
vcc_to level = call_of 1 level []

abbrev pub field_to : ℕ → Call
field_to level = call_of 2 level []

abbrev pub start : Call
start = call_of 3 0 []

abbrev pub send : ℕ → Call
send x = call_of 4 x []

-- bytes sent, one after the other
unfoldable pub sends : List ℕ → List Call
sends [] = []
sends (x ∷ s) = send x ∷ sends s

-- a fetch with the host's Ack, and without
abbrev pub fetch : Call
fetch = call_of 5 1 []

abbrev pub fetch_last : Call
fetch_last = call_of 5 0 []

abbrev pub stop : Call
stop = call_of 6 0 []

abbrev pub programming_end : Call
programming_end = call_of 7 0 []

-- a frame, with its CRC
abbrev pub frame : List ℕ → Call
frame f = call_of 8 0 (closed f)

-- an end-of-frame
abbrev pub end_of_frame : Call
end_of_frame = call_of 9 0 []

-- ---- tags, written down from 01's words
-- the bench's UID
abbrev pub uid : Uid
uid = record { bytes = 0x01 ∷ 0x02 ∷ 0x03 ∷ 0x04 ∷ 0x05 ∷ 0x24 ∷ 0x02 ∷ 0xE0 ∷ [] }

-- "a fresh powered tag in the field": "all bytes, registers and passwords 0, ends 0Fh, UID as set, Ready"
abbrev pub powered : Device
powered =
    device (with_tag_air (with_field true (fresh_tag uid).air) (with_tag_host (with_vcc true (fresh_tag uid).host) (fresh_tag uid))) (zeros memory_bytes)

-- ---- a device but for one thing: `powered but counter_at 0x0200`
infixl 10 ◌but◌
abbrev pub ◌but◌ : Device → (Device → Device) → Device
◌but◌ d f = f d

abbrev pub on_air : (Air → Air) → Device → Device
on_air change d = device (with_tag_air (change d.tag.air) d.tag) d.memory

abbrev pub on_host : (Host → Host) → Device → Device
on_host change d = device (with_tag_host (change d.tag.host) d.tag) d.memory

abbrev pub on_core : (Core → Core) → Device → Device
on_core change d = device (with_tag_core (change d.tag.core) d.tag) d.memory

abbrev pub on_registers : (Registers → Registers) → Device → Device
on_registers change d = on_core (λ (c : Core). with_registers (change c.registers) c) d

-- ---- the radio side
abbrev pub field_is : Bool → Device → Device
field_is on d = on_air (with_field on) d

abbrev pub radio_state : RadioState → Device → Device
radio_state x d = on_air (with_state x) d

-- "radio session .. 1 to 4 for passwords 0 to 3"
abbrev pub radio_session : ℕ → Device → Device
radio_session n d = on_air (with_radio_session n) d

-- ends-of-frame left to the slot
abbrev pub slots_are : ℕ → Device → Device
slots_are n d = on_air (with_slots n) d

-- ---- the host side
abbrev pub vcc_is : Bool → Device → Device
vcc_is on d = on_host (with_vcc on) d

abbrev pub i2c_session : Device → Device
i2c_session d = on_host (with_i2c_session true) d

abbrev pub being_programmed : Device → Device
being_programmed d = on_host (with_programming true) d

abbrev pub counter_at : ℕ → Device → Device
counter_at n d = on_host (with_counter n) d

abbrev pub on_bus : Bus → Device → Device
on_bus b d = on_host (with_bus b) d

-- ---- registers, by their addresses
-- ENDA1 to ENDA3
abbrev pub area_ends : ℕ → ℕ → ℕ → Device → Device
area_ends end1 end2 end3 d = on_registers (λ (r : Registers). written (written (written r 0x05 end1) 0x07 end2) 0x09 end3) d

-- RFA1SS to RFA4SS
abbrev pub area_rights : ℕ → ℕ → ℕ → ℕ → Device → Device
area_rights area1 area2 area3 area4 d = on_registers (λ (r : Registers). written (written (written (written r 0x04 area1) 0x06 area2) 0x08 area3) 0x0A area4) d

abbrev pub mailbox_mode : ℕ → Device → Device
mailbox_mode n d = on_registers (λ (r : Registers). written r 0x0D n) d

-- MB_EN 1, and a host message of n bytes with its CURRENT bit, and HOST_PUT or not
abbrev pub host_message : ℕ → Bool → Device → Device
host_message n put d = on_core (with_mailbox (with_enabled true (with_length n (with_host_message (with_put put put_message) empty_mailbox)))) d

-- ---- the bytes: of user memory, mailbox and page buffer the first ones, all others being 0
abbrev pub then_zeros : ℕ → List ℕ → List ℕ
then_zeros n s = s ++ zeros (n - length s)

abbrev pub bytes : List ℕ → List ℕ → List ℕ → Device → Device
bytes user mailbox page d = device d.tag (then_zeros user_bytes user ++ then_zeros 256 mailbox ++ then_zeros 256 page)
