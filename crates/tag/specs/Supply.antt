-- Supply changes, and the fresh tag.
use Rattle.std.specs.Prelude.{Bool, true, false}
use Rattle.registers.specs.Passed.{pick}
use Rattle.registers.specs.Fresh.{fresh_registers}
use Rattle.registers.specs.Map.{with_dynamic}
use Rattle.bus.specs.declared.Bus.TheVariants.{Idle}
use Rattle.tag.specs.declared.Host.{Host}
use Rattle.keys.specs.declared.Uid.{Uid}
use Rattle.tag.specs.declared.Core.{Core}
use Rattle.tag.specs.declared.WireSide.{WireSide}
use Rattle.tag.specs.declared.Tag.{Tag}
use Rattle.tag.specs.Parts.{with_vcc, with_registers, with_mailbox, with_host, with_wire_core}
use Rattle.air.specs.Parts.{out_of_field}
use Rattle.mailbox.specs.Mailbox.{empty_mailbox, disabled}
use Rattle.keys.specs.Keys.{fresh_passwords}

-- "sets .. RF_MNGT_Dyn to RF_MNGT"
abbrev pub reloaded : Core → Core
reloaded c = with_registers (with_dynamic c.registers.mngt c.registers) c

-- the host side without supply, and idle
abbrev pub unpowered : Host
unpowered = record { vcc = false; session = false; programming = false; counter = 0; bus = Idle }

-- "VCC off closes the I2C session, drops the transfer and programming, empties the mailbox, clears MB_EN, sets the counter to 0 and RF_MNGT_Dyn to RF_MNGT."
abbrev pub vcc_off : WireSide → WireSide
vcc_off w = with_host unpowered (with_wire_core (with_mailbox (disabled w.core.mailbox) (reloaded w.core)) w)

-- "VCC on from off .. reloads RF_MNGT_Dyn."
abbrev pub vcc_on : WireSide → WireSide
vcc_on w = with_host (with_vcc true w.host) (with_wire_core (reloaded w.core) w)

-- VCC at a level; "a repeated supply .. level .. change[s] nothing (house)"
unfoldable pub vcc_at : Bool → WireSide → WireSide
vcc_at on w = pick on (pick w.host.vcc w (vcc_on w)) (pick w.host.vcc (vcc_off w) w)

-- "Fresh tag: all bytes, registers and passwords 0, ends 0Fh, UID as set, Ready, all supplies off."
unfoldable pub fresh_tag : Uid → Tag
fresh_tag u =
    record { air = out_of_field; host = unpowered; core = record { registers = fresh_registers; mailbox = empty_mailbox; passwords = fresh_passwords }; uid = u }
