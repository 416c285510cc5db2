-- "Frame: flags, command, 02h for commands from A0h, UID (8 bytes, lowest first) if addressed, parameters, CRC low byte first."
-- A byte that a frame is too short to hold reads 0; the judge's rules on length come before any use of it.
use Rattle.std.specs.Prelude.{Bool, List, ℕ, ◌+◌, ◌-◌, leb, length, get_or}
use Rattle.parts.specs.Pick.{pick}
use Rattle.parts.specs.Bits.{is_set}
use Rattle.keys.specs.declared.Uid.{Uid}
use Rattle.keys.specs.Keys.{uid_at, same_uid}

abbrev pub flags : List ℕ → ℕ
flags f = get_or f 0 0

abbrev pub command : List ℕ → ℕ
command f = get_or f 1 0

-- "Flags: 04h inventory, 08h extension, 10h select, 20h address, 40h option, 80h reserved."
abbrev pub inventory_flag : List ℕ → Bool
inventory_flag f = is_set 0x04 (flags f)

abbrev pub extension_flag : List ℕ → Bool
extension_flag f = is_set 0x08 (flags f)

abbrev pub select_flag : List ℕ → Bool
select_flag f = is_set 0x10 (flags f)

abbrev pub address_flag : List ℕ → Bool
address_flag f = is_set 0x20 (flags f)

abbrev pub option_flag : List ℕ → Bool
option_flag f = is_set 0x40 (flags f)

abbrev pub reserved_flag : List ℕ → Bool
reserved_flag f = is_set 0x80 (flags f)

-- "02h for commands from A0h"
abbrev pub is_custom : List ℕ → Bool
is_custom f = leb 0xA0 (command f)

-- where the UID stands, if addressed, and where the parameters stand
unfoldable pub uid_place : List ℕ → ℕ
uid_place f = pick (is_custom f) 3 2

unfoldable pub param_place : List ℕ → ℕ
param_place f = uid_place f + pick (address_flag f) 8 0

-- where the CRC stands
abbrev pub crc_place : List ℕ → ℕ
crc_place f = length f - 2

-- the UID in the frame is the tag's
unfoldable pub own_uid : List ℕ → Uid → Bool
own_uid f u = same_uid (uid_at f (uid_place f)) u

-- parameter byte i
unfoldable pub param : List ℕ → ℕ → ℕ
param f i = get_or f (param_place f + i) 0
