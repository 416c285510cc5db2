-- The byte that a fetch gives at address a.
use Rattle.std.specs.Prelude.{Bool, false, ◌&&◌, List, ℕ, ◌+◌, ◌-◌, ◌/◌, leb, ltb, eqb, get_or}
use Rattle.parts.specs.Pick.{pick}
use Rattle.registers.specs.Map.{register_at}
use Rattle.rights.specs.declared.Side.TheVariants.{Wire}
use Rattle.rights.specs.Rights.{may_read}
use Rattle.bus.specs.declared.Space.{Space}
use Rattle.bus.specs.declared.Space.TheVariants.{User, System}
use Rattle.mailbox.specs.declared.Mailbox.{Mailbox}
use Rattle.tag.specs.declared.Core.{Core}
use Rattle.keys.specs.declared.Uid.{Uid}
use Rattle.tag.specs.Layout.{user_bytes, mailbox_place}
use Rattle.mailbox.specs.Mailbox.{control_byte, length_byte}
use Rattle.keys.specs.Keys.{uid_byte}
use Rattle.dynamic.specs.Dynamic.{rfMngtDyn, i2cSsoDyn, mbCtrlDyn, mbLenDyn, dynamic_at, mailbox_first, mailbox_last}

-- "FFh where .. read-protected"
unfoldable pub memory_byte : Core → Bool → List ℕ → ℕ → ℕ
memory_byte c session m address = pick (may_read c.registers (Wire session) (address / 4)) (get_or m address 0) 0xFF

-- "FFh .. in the mailbox past the length or with MB_EN 0"
unfoldable pub mailbox_byte : Mailbox → List ℕ → ℕ → ℕ
mailbox_byte mailbox m address = pick (mailbox.enabled && ltb (address - mailbox_first) mailbox.length) (get_or m (mailbox_place + (address - mailbox_first)) 0) 0xFF

-- "user space: 0000h-01FFh memory; 2003h RF_MNGT_Dyn; 2004h I2C_SSO_Dyn; 2006h MB_CTRL_Dyn; 2007h MB_LEN_Dyn; 2008h-2107h mailbox"
unfoldable pub user_byte : Core → Bool → List ℕ → ℕ → ℕ
user_byte c session m address =
    pick (ltb address user_bytes) (memory_byte c session m address)
    (pick (eqb address (dynamic_at rfMngtDyn)) c.registers.dynamic.bits
    (pick (eqb address (dynamic_at i2cSsoDyn)) (pick session 1 0)
    (pick (eqb address (dynamic_at mbCtrlDyn)) (control_byte c.mailbox)
    (pick (eqb address (dynamic_at mbLenDyn)) (length_byte c.mailbox)
    (pick (leb mailbox_first address && leb address mailbox_last) (mailbox_byte c.mailbox m address)
    0xFF)))))

-- "0018h-001Fh UID (read only)"; the other registers, and FFh where unmapped and at 0900h-0907h
unfoldable pub system_byte : Core → Uid → ℕ → ℕ
system_byte c u address = pick (leb 0x0018 address && leb address 0x001F) (uid_byte u (address - 0x0018)) (register_at c.registers address)

unfoldable pub fetched : Space → Core → Bool → Uid → List ℕ → ℕ → ℕ
fetched User c session u m address = user_byte c session m address
fetched System c session u m address = system_byte c u address

-- a is the last byte of an RF message
unfoldable pub is_last : Space → Mailbox → ℕ → Bool
is_last User mailbox address = mailbox.rf.current && eqb (address + 1) (mailbox_first + mailbox.length)
is_last System mailbox address = false
