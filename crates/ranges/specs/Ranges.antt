-- 01's sentence "Ranges", but for the page bytes that "would be Acked there". What the types hold is listed in docs/DECISIONS.md.
use Rattle.std.specs.Prelude.{Bool, true, not, ◌&&◌, ◌||◌, leb, ltb, eqb, Option, Some, None}
use Rattle.bus.specs.declared.OpenTransfer.{OpenTransfer}
use Rattle.registers.specs.declared.Registers.{Registers}
use Rattle.register_types.specs.Types.{rf_mngt_bits}
use Rattle.defined_bits.specs.Defined.{only_bits, defined_only}
use Rattle.areas.specs.Ends.{ends_in_range}
use Rattle.air.specs.declared.Air.{Air}
use Rattle.air.specs.Radio.{is_quiet}
use Rattle.tag.specs.declared.Host.{Host}
use Rattle.mailbox.specs.declared.Message.{Message}
use Rattle.mailbox.specs.declared.Mailbox.{Mailbox}
use Rattle.tag.specs.declared.Core.{Core}
use Rattle.tag.specs.declared.WireSide.{WireSide}
use Rattle.tag.specs.declared.Tag.{Tag}
use Rattle.tag.specs.Parts.{wire_side}
use Rattle.bus.specs.Bus.{transfer_at, is_open, is_active, page_bytes}

-- "ends as under Areas"; "undefined register bits 0"
unfoldable pub registers_in_range : Registers → Bool
registers_in_range r = ends_in_range r.ends && defined_only r

-- "radio session 0 none, 1 to 4 for passwords 0 to 3"; the ends-of-frame left "to its slot, 0 to 15, 0 when Quiet or out of the field"
unfoldable pub air_in_range : Air → Bool
air_in_range a = leb a.session 4 && leb a.slots 15 && (eqb a.slots 0 || (a.field && not (is_quiet a.radio)))

-- "a PUT set only with its CURRENT bit"
abbrev pub put_current : Message → Bool
put_current message = not message.put || message.current

-- "message length 0 to 256; at most one of the two CURRENT bits set; a PUT set only with its CURRENT bit;
-- a CURRENT bit set exactly when length is over 0; length over 0 only with MB_EN"
unfoldable pub mailbox_in_range : Mailbox → Bool
mailbox_in_range mailbox =
    leb mailbox.length 256
    && not (mailbox.host.current && mailbox.rf.current)
    && put_current mailbox.host
    && put_current mailbox.rf
    && ((ltb 0 mailbox.length && (mailbox.host.current || mailbox.rf.current)) || (eqb mailbox.length 0 && not (mailbox.host.current || mailbox.rf.current)))
    && (eqb mailbox.length 0 || mailbox.enabled)

-- "MB_EN, I2C session, programming and any bus activity only with VCC"
unfoldable pub supplied_in_range : Host → Bool → Bool
supplied_in_range h mailbox = h.vcc || not (mailbox || h.session || h.programming || is_active h.bus)

-- "undefined register bits 0", of what is kept of an open transfer
unfoldable pub transfer_in_range : Option OpenTransfer → Bool
transfer_in_range None = true
transfer_in_range (Some kept) = only_bits rf_mngt_bits kept.dynamic.bits

-- "page bytes 0 to 256"; "never programming and a transfer open together"
unfoldable pub host_in_range : Host → Bool
host_in_range h = leb (page_bytes h.bus) 256 && not (h.programming && is_open h.bus) && transfer_in_range (transfer_at h.bus)

-- of what both sides share
unfoldable pub core_in_range : Core → Bool
core_in_range c = registers_in_range c.registers && mailbox_in_range c.mailbox

-- of what a transfer may touch
unfoldable pub wire_in_range : WireSide → Bool
wire_in_range w = core_in_range w.core && host_in_range w.host && supplied_in_range w.host w.core.mailbox.enabled

-- of the whole tag
unfoldable pub in_range : Tag → Bool
in_range t = air_in_range t.air && wire_in_range (wire_side t)
