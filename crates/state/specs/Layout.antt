-- The tag's state as bytes, part after part. Of each part: how long it is and where it stands; its bytes; the part that stands at a place; and, where not every byte will do, whether bytes at a place are one.
-- Byte i of a part that stands at place `at` is at + i.
use Rattle.std.specs.Prelude.{Bool, ◌&&◌, ◌||◌, List, [], ◌∷◌, ◌++◌, ℕ, ◌+◌, ◌*◌, ◌/◌, ◌%◌, leb, eqb, length, get_or, Option, Some, None}
use Rattle.parts.specs.Pick.{pick}
use Rattle.parts.specs.Bytes.{bytes_at}
use Rattle.register_table.specs.Table.{register_count}
use Rattle.registers.specs.declared.Registers.{Registers}
use Rattle.registers.specs.Map.{register_bytes, registers_of}
use Rattle.air.specs.declared.RadioState.{RadioState}
use Rattle.air.specs.declared.RadioState.TheVariants.{Ready, Quiet, Selected}
use Rattle.air.specs.declared.Air.{Air}
use Rattle.mailbox.specs.declared.Mailbox.{Mailbox}
use Rattle.keys.specs.declared.Passwords.{Passwords}
use Rattle.bus.specs.declared.Space.{Space}
use Rattle.bus.specs.declared.Space.TheVariants.{User, System}
use Rattle.bus.specs.declared.OpenTransfer.{OpenTransfer}
use Rattle.bus.specs.declared.Bus.{Bus}
use Rattle.bus.specs.declared.Bus.TheVariants.{Idle, Started, ReadLeg, WriteLeg, LowAddress, DataLeg}
use Rattle.bus.specs.Bus.{is_open_transfer}
use Rattle.tag.specs.declared.Host.{Host}
use Rattle.tag.specs.declared.Tag.{Tag}
use Rattle.keys.specs.Keys.{password_at, uid_at}

-- ---- the parts: each has its length, and stands where the one before it ends
abbrev pub air_part_length : ℕ
air_part_length = 4

-- in the host's part: the bytes before the bus, and the bus
abbrev pub bus_offset : ℕ
bus_offset = 5

abbrev pub bus_length : ℕ
bus_length = 8

abbrev pub host_part_length : ℕ
host_part_length = bus_offset + bus_length

abbrev pub registers_part_length : ℕ
registers_part_length = register_count

abbrev pub mailbox_part_length : ℕ
mailbox_part_length = 7

-- "passwords .., eight bytes each"
abbrev pub passwords_part_length : ℕ
passwords_part_length = 5 * 8

abbrev pub uid_part_length : ℕ
uid_part_length = 8

abbrev pub air_part_place : ℕ
air_part_place = 0

abbrev pub host_part_place : ℕ
host_part_place = air_part_place + air_part_length

abbrev pub registers_part_place : ℕ
registers_part_place = host_part_place + host_part_length

abbrev pub mailbox_part_place : ℕ
mailbox_part_place = registers_part_place + registers_part_length

abbrev pub passwords_part_place : ℕ
passwords_part_place = mailbox_part_place + mailbox_part_length

abbrev pub uid_part_place : ℕ
uid_part_place = passwords_part_place + passwords_part_length

abbrev pub state_bytes : ℕ
state_bytes = uid_part_place + uid_part_length

-- ---- numbers
-- "0 or 1"
unfoldable pub flag_byte : Bool → ℕ
flag_byte on = pick on 1 0

abbrev pub is_flag : ℕ → Bool
is_flag x = leb x 1

abbrev pub flag_of : ℕ → Bool
flag_of x = eqb x 1

-- "low byte first"
abbrev pub low_byte : ℕ → ℕ
low_byte n = n % 256

abbrev pub high_byte : ℕ → ℕ
high_byte n = n / 256

abbrev pub word_of : ℕ → ℕ → ℕ
word_of low high = low + high * 256

-- "radio state: 0 Ready, 1 Quiet, 2 Selected"
unfoldable pub radio_number : RadioState → ℕ
radio_number Ready = 0
radio_number Quiet = 1
radio_number Selected = 2

unfoldable pub radio_state_of : ℕ → RadioState
radio_state_of n = pick (eqb n 1) Quiet (pick (eqb n 2) Selected Ready)

-- "space of the leg: 0 user, 1 system"
unfoldable pub space_number : Space → ℕ
space_number User = 0
space_number System = 1

unfoldable pub space_of : ℕ → Space
space_of n = pick (eqb n 1) System User

-- ---- field, radio state, radio session, ends-of-frame left to the slot
unfoldable pub air_bytes : Air → List ℕ
air_bytes a = flag_byte a.field ∷ radio_number a.radio ∷ a.session ∷ a.slots ∷ []

unfoldable pub air_decodes : List ℕ → ℕ → Bool
air_decodes s at = is_flag (get_or s (at + 0) 0) && leb (get_or s (at + 1) 0) 2

unfoldable pub air_at : List ℕ → ℕ → Air
air_at s at = record { field = flag_of (get_or s (at + 0) 0); radio = radio_state_of (get_or s (at + 1) 0); session = get_or s (at + 2) 0; slots = get_or s (at + 3) 0 }

-- ---- the bus
-- "with a transfer open: RF_MNGT_Dyn at its start"
unfoldable pub transfer_byte : Option OpenTransfer → ℕ
transfer_byte None = 0
transfer_byte (Some kept) = kept.dynamic.bits

-- "bus: 0 idle, 1 started, 2 read leg, 3 write leg before its address, 4 write leg after the high address byte, 5 write leg past its address"; "space of the leg";
-- "bus 1: transfer open; bus 2: the host has NoAcked; bus 5: the leg is spoiled"; "bus 2: the last byte of an RF message was fetched"; "bus 4: the high address byte"; "bus 5: page bytes, low byte first"
unfoldable pub bus_bytes : Bus → List ℕ
bus_bytes Idle = 0 ∷ 0 ∷ 0 ∷ 0 ∷ 0 ∷ 0 ∷ 0 ∷ 0 ∷ []
bus_bytes (Started transfer) = 1 ∷ 0 ∷ flag_byte (is_open_transfer transfer) ∷ 0 ∷ 0 ∷ 0 ∷ 0 ∷ transfer_byte transfer ∷ []
bus_bytes (ReadLeg kept space over last) = 2 ∷ space_number space ∷ flag_byte over ∷ flag_byte last ∷ 0 ∷ 0 ∷ 0 ∷ kept.dynamic.bits ∷ []
bus_bytes (WriteLeg kept space) = 3 ∷ space_number space ∷ 0 ∷ 0 ∷ 0 ∷ 0 ∷ 0 ∷ kept.dynamic.bits ∷ []
bus_bytes (LowAddress kept space high) = 4 ∷ space_number space ∷ 0 ∷ 0 ∷ high ∷ 0 ∷ 0 ∷ kept.dynamic.bits ∷ []
bus_bytes (DataLeg kept space count spoiled) = 5 ∷ space_number space ∷ flag_byte spoiled ∷ 0 ∷ 0 ∷ low_byte count ∷ high_byte count ∷ kept.dynamic.bits ∷ []

-- "every byte .. that the bus does not use is 0"
abbrev pub used_or0 : Bool → ℕ → Bool
used_or0 used x = used || eqb x 0

-- the eight bytes are a bus
unfoldable pub is_bus : ℕ → ℕ → ℕ → ℕ → ℕ → ℕ → ℕ → ℕ → Bool
is_bus kind space flag last high low top dynamic =
    leb kind 5
    && (is_flag space && used_or0 (leb 2 kind) space)
    && (is_flag flag && used_or0 (eqb kind 1 || eqb kind 2 || eqb kind 5) flag)
    && (is_flag last && used_or0 (eqb kind 2) last)
    && used_or0 (eqb kind 4) high
    && used_or0 (eqb kind 5) low
    && used_or0 (eqb kind 5) top
    && used_or0 (leb 2 kind || (eqb kind 1 && flag_of flag)) dynamic

-- what is kept of an open transfer, of its byte
abbrev pub open_transfer_of : ℕ → OpenTransfer
open_transfer_of x = record { dynamic = record { bits = x } }

-- the bus of a kind
unfoldable pub bus_of : ℕ → OpenTransfer → Space → Bool → Bool → ℕ → ℕ → Bus
bus_of kind kept space flag last high count =
    pick (eqb kind 1) (Started (pick flag (Some kept) None))
    (pick (eqb kind 2) (ReadLeg kept space flag last)
    (pick (eqb kind 3) (WriteLeg kept space)
    (pick (eqb kind 4) (LowAddress kept space high)
    (pick (eqb kind 5) (DataLeg kept space count flag)
    Idle))))

unfoldable pub bus_decodes : List ℕ → ℕ → Bool
bus_decodes s at =
    is_bus (get_or s (at + 0) 0) (get_or s (at + 1) 0) (get_or s (at + 2) 0) (get_or s (at + 3) 0) (get_or s (at + 4) 0) (get_or s (at + 5) 0) (get_or s (at + 6) 0) (get_or s (at + 7) 0)

unfoldable pub bus_at : List ℕ → ℕ → Bus
bus_at s at =
    bus_of (get_or s (at + 0) 0) (open_transfer_of (get_or s (at + 7) 0)) (space_of (get_or s (at + 1) 0)) (flag_of (get_or s (at + 2) 0)) (flag_of (get_or s (at + 3) 0)) (get_or s (at + 4) 0)
    (word_of (get_or s (at + 5) 0) (get_or s (at + 6) 0))

-- ---- VCC, I2C session open, programming under way, address counter low byte first, the bus
unfoldable pub host_bytes : Host → List ℕ
host_bytes h =
    flag_byte h.vcc ∷ flag_byte h.session ∷ flag_byte h.programming ∷ low_byte h.counter ∷ high_byte h.counter ∷ bus_bytes h.bus

unfoldable pub host_decodes : List ℕ → ℕ → Bool
host_decodes s at =
    is_flag (get_or s (at + 0) 0) && is_flag (get_or s (at + 1) 0) && is_flag (get_or s (at + 2) 0) && bus_decodes s (at + bus_offset)

unfoldable pub host_at : List ℕ → ℕ → Host
host_at s at =
    record {
      vcc = flag_of (get_or s (at + 0) 0);
      session = flag_of (get_or s (at + 1) 0);
      programming = flag_of (get_or s (at + 2) 0);
      counter = word_of (get_or s (at + 3) 0) (get_or s (at + 4) 0);
      bus = bus_at s (at + bus_offset);
    }

-- ---- the registers: the byte at each place, `register_bytes` of crates/registers/specs/Map.antt
unfoldable pub registers_at : List ℕ → ℕ → Registers
registers_at s at = registers_of (bytes_at s at registers_part_length)

-- ---- "MB_EN, HOST_PUT, RF_PUT, HOST_CURRENT, RF_CURRENT", "message length, low byte first"
unfoldable pub mailbox_bytes : Mailbox → List ℕ
mailbox_bytes mailbox =
    flag_byte mailbox.enabled ∷ flag_byte mailbox.host.put ∷ flag_byte mailbox.rf.put ∷ flag_byte mailbox.host.current ∷ flag_byte mailbox.rf.current
    ∷ low_byte mailbox.length ∷ high_byte mailbox.length ∷ []

unfoldable pub mailbox_decodes : List ℕ → ℕ → Bool
mailbox_decodes s at =
    is_flag (get_or s (at + 0) 0) && is_flag (get_or s (at + 1) 0) && is_flag (get_or s (at + 2) 0) && is_flag (get_or s (at + 3) 0) && is_flag (get_or s (at + 4) 0)

unfoldable pub mailbox_at : List ℕ → ℕ → Mailbox
mailbox_at s at =
    record {
      enabled = flag_of (get_or s (at + 0) 0);
      host = record { put = flag_of (get_or s (at + 1) 0); current = flag_of (get_or s (at + 3) 0) };
      rf = record { put = flag_of (get_or s (at + 2) 0); current = flag_of (get_or s (at + 4) 0) };
      length = word_of (get_or s (at + 5) 0) (get_or s (at + 6) 0);
    }

-- ---- "I2C password", "passwords 0 to 3, eight bytes each"
unfoldable pub password_bytes : Passwords → List ℕ
password_bytes p = p.i2c.bytes ++ (p.rf0.bytes ++ (p.rf1.bytes ++ (p.rf2.bytes ++ p.rf3.bytes)))

unfoldable pub passwords_at : List ℕ → ℕ → Passwords
passwords_at s at =
    record { rf0 = password_at s (at + 8); rf1 = password_at s (at + 16); rf2 = password_at s (at + 24); rf3 = password_at s (at + 32); i2c = password_at s (at + 0) }

-- ---- the state; at its end "UID, lowest byte first"
unfoldable pub bytes_of : Tag → List ℕ
bytes_of t =
    air_bytes t.air
    ++ (host_bytes t.host
    ++ (register_bytes t.core.registers
    ++ (mailbox_bytes t.core.mailbox
    ++ (password_bytes t.core.passwords
    ++ t.uid.bytes))))

-- Bytes decode to a state exactly when there are `state_bytes` of them, the flags are 0 or 1, radio state, bus and space have one of their numbers, and every byte of the bus that it does not use is 0.
unfoldable pub decodes : List ℕ → Bool
decodes s = eqb (length s) state_bytes && air_decodes s air_part_place && host_decodes s host_part_place && mailbox_decodes s mailbox_part_place

-- the state; where bytes decode to none, some tag
unfoldable pub tag_of : List ℕ → Tag
tag_of s =
    record {
      air = air_at s air_part_place;
      host = host_at s host_part_place;
      core = record { registers = registers_at s registers_part_place; mailbox = mailbox_at s mailbox_part_place; passwords = passwords_at s passwords_part_place };
      uid = uid_at s uid_part_place;
    }
