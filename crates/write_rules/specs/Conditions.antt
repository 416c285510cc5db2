-- The conditions under which a write is forbidden, each by itself, in the order of 02, Ask 2.
use Rattle.std.specs.Prelude.{Bool, true, false, not, ◌&&◌, ◌||◌, ℕ, ◌+◌, leb, eqb}
use Rattle.parts.specs.Bits.{is_set}
use Rattle.dynamic.specs.Dynamic.{mailbox_first, host_writes}
use Rattle.register_types.specs.declared.RfaSs.{RfaSs}
use Rattle.written_registers.specs.Passed.{is_writable}
use Rattle.rights.specs.Passed.{area_of_block, area_of_byte, end_allows}
use Rattle.rights.specs.declared.Side.{Side}
use Rattle.rights.specs.declared.Side.TheVariants.{Wire, Radio}
use Rattle.rights.specs.Rights.{security_of, session_opens, setting, wire_guards, is_locked}
use Rattle.written_registers.specs.Written.{written_all}
use Rattle.write_reasons.specs.declared.WritePlace.{WritePlace}
use Rattle.write_reasons.specs.declared.WritePlace.TheVariants.{Unmapped, UserMemory, DynamicByte, MailboxByte, SystemRegister, PasswordByte}
use Rattle.write_rules.specs.Situation.{Situation}

-- ---- what the conditions ask of a situation
unfoldable pub place_number : WritePlace → ℕ
place_number Unmapped = 0
place_number UserMemory = 1
place_number DynamicByte = 2
place_number MailboxByte = 3
place_number SystemRegister = 4
place_number PasswordByte = 5

unfoldable pub is_at : WritePlace → Situation → Bool
is_at place z = eqb (place_number z.place) (place_number place)

unfoldable pub by_wire : Side → Bool
by_wire (Wire session) = true
by_wire (Radio session) = false

-- the area of its block, and RFAiSS of that
abbrev pub area_of : Situation → ℕ
area_of z = area_of_block z.core.registers.ends z.block

abbrev pub rights_of : Situation → RfaSs
rights_of z = security_of z.core.registers.security (area_of z)

-- "eight, a code, eight again"; "Code 07h writes"
abbrev pub is_code : Situation → Bool
is_code z = eqb z.k 8

abbrev pub writes_password : Situation → Bool
writes_password z = is_code z && eqb z.byte 0x07

-- ---- leg spoiled: "The first NoAck from the tag spoils the leg: its later bytes are NoAcked"
unfoldable pub leg_spoiled : Situation → Bool
leg_spoiled z = z.spoiled

-- ---- outside the map
unfoldable pub outside_map : Situation → Bool
outside_map z = is_at Unmapped z

-- ---- mailbox mode on: "user memory, MB_EN is 0"; "system, MB_EN is 0"; "Code 07h writes: Acked only with .. MB_EN 0"
unfoldable pub asks_mode_off : WritePlace → Situation → Bool
asks_mode_off Unmapped z = false
asks_mode_off UserMemory z = true
asks_mode_off DynamicByte z = false
asks_mode_off MailboxByte z = false
asks_mode_off SystemRegister z = true
asks_mode_off PasswordByte z = writes_password z

unfoldable pub mailbox_mode_on : Situation → Bool
mailbox_mode_on z = by_wire z.side && asks_mode_off z.place z && z.core.mailbox.enabled

-- ---- mode off: "mailbox, .. MB_EN 1"
unfoldable pub mode_off : Situation → Bool
mode_off z = is_at MailboxByte z && not z.core.mailbox.enabled

-- ---- mailbox busy: "mailbox, .. neither PUT set"
unfoldable pub mailbox_busy : Situation → Bool
mailbox_busy z = is_at MailboxByte z && (z.core.mailbox.host.put || z.core.mailbox.rf.put)

-- ---- mailbox leg not from 2008h: "mailbox, first byte at 2008h"
unfoldable pub mailbox_leg_not_from2008 : Situation → Bool
mailbox_leg_not_from2008 z = is_at MailboxByte z && not (eqb z.first mailbox_first)

-- ---- another area: "the byte lies in the first byte's area"
unfoldable pub another_area : Situation → Bool
another_area z = is_at UserMemory z && not (eqb (area_of_byte z.core.registers.ends z.first) (area_of_byte z.core.registers.ends z.address))

-- ---- locked block: "LOCK_CCFILE bits 0 and 1 lock blocks 0 and 1 against writing by either side."
unfoldable pub locked_block : Situation → Bool
locked_block z = is_at UserMemory z && is_locked z.core.registers.ccfile z.block

-- ---- area never writable: RFAiSS "Bits 3-2: .. 3 .. write never"
unfoldable pub area_never_writable : Situation → Bool
area_never_writable z = is_at UserMemory z && not (by_wire z.side) && eqb (setting (rights_of z)) 3

-- ---- configuration locked: "A1: 12h if LOCK_CFG"
unfoldable pub configuration_locked : Situation → Bool
configuration_locked z = is_at SystemRegister z && not (by_wire z.side) && is_set 1 z.core.registers.config.bits

-- ---- session needed
-- by the wire: I2CSS "low bit, write needs the I2C session"; "system, .. session open"; "Code 07h writes: Acked only with the session open"
unfoldable pub asks_host : WritePlace → Situation → Bool
asks_host Unmapped z = false
asks_host UserMemory z = wire_guards z.core.registers.i2css (area_of z)
asks_host DynamicByte z = false
asks_host MailboxByte z = false
asks_host SystemRegister z = true
asks_host PasswordByte z = writes_password z

-- RFAiSS "Bits 3-2: .. 1 write needs the session; 2 read and write need it"
unfoldable pub needs_session : RfaSs → Bool
needs_session security = eqb (setting security) 1 || eqb (setting security) 2

-- by radio, "session .. 1 to 4 for passwords 0 to 3": the area's; A1 "12h if .. password 0 session closed"; B1 "12h unless session n"
unfoldable pub radio_misses : WritePlace → Situation → ℕ → Bool
radio_misses Unmapped z session = false
radio_misses UserMemory z session = needs_session (rights_of z) && not (session_opens (rights_of z) session)
radio_misses DynamicByte z session = false
radio_misses MailboxByte z session = false
radio_misses SystemRegister z session = not (eqb session 1)
radio_misses PasswordByte z session = not (eqb session (z.address + 1))

unfoldable pub misses : Side → Situation → Bool
misses (Wire session) z = asks_host z.place z && not session
misses (Radio session) z = radio_misses z.place z session

unfoldable pub session_needed : Situation → Bool
session_needed z = misses z.side z

-- ---- register read only: "system, .. register writable"; "RF_MNGT_Dyn and MB_CTRL_Dyn, always", the other two never
unfoldable pub is_read_only : WritePlace → ℕ → Bool
is_read_only Unmapped address = false
is_read_only UserMemory address = false
is_read_only DynamicByte address = not (host_writes address)
is_read_only MailboxByte address = false
is_read_only SystemRegister address = not (is_writable address)
is_read_only PasswordByte address = false

unfoldable pub register_read_only : Situation → Bool
register_read_only z = is_read_only z.place z.address

-- ---- password code: "Another code .. is NoAcked."
unfoldable pub password_code : Situation → Bool
password_code z = is_at PasswordByte z && is_code z && not (eqb z.byte 0x07) && not (eqb z.byte 0x09)

-- ---- ENDA rule: "ENDA rule met with the leg's earlier bytes taken as written"; A1 "0Fh ENDA"
unfoldable pub enda_rule : Situation → Bool
enda_rule z = is_at SystemRegister z && not (end_allows (written_all z.core.registers z.first z.earlier).ends z.address z.byte)

-- ---- page full: "Data is Acked up to 256 bytes"; "A password leg's 17 places .., its 18th as page full". A dynamic register takes one byte.
unfoldable pub room_at : WritePlace → ℕ
room_at Unmapped = 256
room_at UserMemory = 256
room_at DynamicByte = 1
room_at MailboxByte = 256
room_at SystemRegister = 256
room_at PasswordByte = 17

unfoldable pub page_full : Situation → Bool
page_full z = leb (room_at z.place) z.k
