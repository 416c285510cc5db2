-- One part of the state replaced, the rest as it was. These alone write the state's records out, so that a field more is one entry in each setter of its record.
use Rattle.std.specs.Prelude.{Bool, ℕ}
use Rattle.registers.specs.declared.Registers.{Registers}
use Rattle.air.specs.declared.Air.{Air}
use Rattle.mailbox.specs.declared.Mailbox.{Mailbox}
use Rattle.keys.specs.declared.Passwords.{Passwords}
use Rattle.bus.specs.declared.Bus.{Bus}
use Rattle.tag.specs.declared.Host.{Host}
use Rattle.tag.specs.declared.Core.{Core}
use Rattle.tag.specs.declared.WireSide.{WireSide}
use Rattle.tag.specs.declared.Tag.{Tag}

-- ---- what is the wire's alone
abbrev pub with_vcc : Bool → Host → Host
with_vcc on h = record { vcc = on; session = h.session; programming = h.programming; counter = h.counter; bus = h.bus }

abbrev pub with_i2c_session : Bool → Host → Host
with_i2c_session x h = record { vcc = h.vcc; session = x; programming = h.programming; counter = h.counter; bus = h.bus }

abbrev pub with_programming : Bool → Host → Host
with_programming x h = record { vcc = h.vcc; session = h.session; programming = x; counter = h.counter; bus = h.bus }

abbrev pub with_counter : ℕ → Host → Host
with_counter n h = record { vcc = h.vcc; session = h.session; programming = h.programming; counter = n; bus = h.bus }

abbrev pub with_bus : Bus → Host → Host
with_bus b h = record { vcc = h.vcc; session = h.session; programming = h.programming; counter = h.counter; bus = b }

-- ---- what both sides share
abbrev pub with_registers : Registers → Core → Core
with_registers r c = record { registers = r; mailbox = c.mailbox; passwords = c.passwords }

abbrev pub with_mailbox : Mailbox → Core → Core
with_mailbox mailbox c = record { registers = c.registers; mailbox = mailbox; passwords = c.passwords }

abbrev pub with_passwords : Passwords → Core → Core
with_passwords p c = record { registers = c.registers; mailbox = c.mailbox; passwords = p }

-- ---- what a transfer may touch
abbrev pub with_host : Host → WireSide → WireSide
with_host h w = record { host = h; core = w.core }

abbrev pub with_wire_core : Core → WireSide → WireSide
with_wire_core c w = record { host = w.host; core = c }

-- ---- the tag
abbrev pub with_tag_air : Air → Tag → Tag
with_tag_air a t = record { air = a; host = t.host; core = t.core; uid = t.uid }

abbrev pub with_tag_host : Host → Tag → Tag
with_tag_host h t = record { air = t.air; host = h; core = t.core; uid = t.uid }

abbrev pub with_tag_core : Core → Tag → Tag
with_tag_core c t = record { air = t.air; host = t.host; core = c; uid = t.uid }

abbrev pub wire_side : Tag → WireSide
wire_side t = record { host = t.host; core = t.core }

abbrev pub with_wire : WireSide → Tag → Tag
with_wire w t = with_tag_host w.host (with_tag_core w.core t)
