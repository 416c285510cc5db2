-- Rights and locks: who may read and who may write an area or a block.
use Rattle.std.specs.Prelude.{Bool, true, false, not, ◌&&◌, ◌||◌, ℕ, ◌+◌, ◌/◌, ◌%◌, ltb, eqb}
use Rattle.parts.specs.Pick.{pick}
use Rattle.parts.specs.Bits.{is_set}
use Rattle.register_types.specs.declared.RfaSs.{RfaSs}
use Rattle.register_types.specs.declared.I2cSs.{I2cSs}
use Rattle.register_types.specs.declared.LockCcFile.{LockCcFile}
use Rattle.registers.specs.declared.Security.{Security}
use Rattle.registers.specs.declared.Registers.{Registers}
use Rattle.rights.specs.declared.Side.{Side}
use Rattle.rights.specs.declared.Side.TheVariants.{Wire, Radio}
use Rattle.areas.specs.Ends.{area_of_block}

-- RFAiSS of an area, 1 to 4
unfoldable pub security_of : Security → ℕ → RfaSs
security_of security area =
    pick (eqb area 1) security.area1
    (pick (eqb area 2) security.area2
    (pick (eqb area 3) security.area3
    security.area4))

-- "RFAiSS bits 1-0 name password 1 to 3 (0: none opens it)"; "radio session 0 none, 1 to 4 for passwords 0 to 3"
unfoldable pub session_opens : RfaSs → ℕ → Bool
session_opens security session = not (eqb (security.bits % 4) 0) && eqb session (security.bits % 4 + 1)

-- "Bits 3-2: 0 read and write free; 1 write needs the session; 2 read and write need it; 3 read needs it, write never."
abbrev pub setting : RfaSs → ℕ
setting security = security.bits / 4 % 4

unfoldable pub radio_writes : RfaSs → ℕ → Bool
radio_writes security session =
    pick (eqb (setting security) 0) true
    (pick (eqb (setting security) 3) false
    (session_opens security session))

-- "Area 1 is always readable."
unfoldable pub radio_reads : RfaSs → ℕ → ℕ → Bool
radio_reads security area session =
    pick (eqb area 1) true
    (pick (ltb (setting security) 2) true
    (session_opens security session))

-- "I2CSS has two bits an area, area 1 lowest"
unfoldable pub wire_bits : I2cSs → ℕ → ℕ
wire_bits security area =
    pick (eqb area 1) (security.bits % 4)
    (pick (eqb area 2) (security.bits / 4 % 4)
    (pick (eqb area 3) (security.bits / 16 % 4)
    (security.bits / 64 % 4)))

-- "low bit, write needs the I2C session"
unfoldable pub wire_guards : I2cSs → ℕ → Bool
wire_guards security area = is_set 1 (wire_bits security area)

unfoldable pub wire_writes : I2cSs → ℕ → Bool → Bool
wire_writes security area session = session || not (wire_guards security area)

-- "high bit, read needs it, ignored in area 1"
unfoldable pub wire_reads : I2cSs → ℕ → Bool → Bool
wire_reads security area session = session || eqb area 1 || not (is_set 2 (wire_bits security area))

-- "LOCK_CCFILE bits 0 and 1 lock blocks 0 and 1 against writing by either side."
unfoldable pub is_locked : LockCcFile → ℕ → Bool
is_locked lock block = (eqb block 0 && is_set 1 lock.bits) || (eqb block 1 && is_set 2 lock.bits)

-- a side, with the session that it has open, may read or write an area
unfoldable pub read_right : Registers → Side → ℕ → Bool
read_right r (Wire session) area = wire_reads r.i2css area session
read_right r (Radio session) area = radio_reads (security_of r.security area) area session

unfoldable pub write_right : Registers → Side → ℕ → Bool
write_right r (Wire session) area = wire_writes r.i2css area session
write_right r (Radio session) area = radio_writes (security_of r.security area) session

-- whether a side may read a block
unfoldable pub may_read : Registers → Side → ℕ → Bool
may_read r by block = read_right r by (area_of_block r.ends block)

-- whether a side may write a block
unfoldable pub may_write : Registers → Side → ℕ → Bool
may_write r by block = not (is_locked r.ccfile block) && write_right r by (area_of_block r.ends block)
