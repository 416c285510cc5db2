-- Whether a data byte is Acked in user space: the leg's data byte k (from 0), of a write leg from a first address.
use Rattle.std.specs.Prelude.{Bool, false, not, ◌&&◌, ℕ, ◌+◌, ◌/◌, leb, ltb, eqb}
use Rattle.parts.specs.Pick.{pick}
use Rattle.write_rules.specs.Passed.{Wire, area_of_byte, may_write, Core, user_bytes}
use Rattle.mailbox.specs.declared.Mailbox.{Mailbox}
use Rattle.dynamic.specs.Dynamic.{mailbox_first, host_writes}

-- "user memory, MB_EN is 0, the byte lies in the first byte's area, no lock, rights hold"
unfoldable pub memory_acked : Core → Bool → ℕ → ℕ → Bool
memory_acked c session first k =
    pick (leb user_bytes (first + k)) false
    (not c.mailbox.enabled
    && eqb (area_of_byte c.registers.ends first) (area_of_byte c.registers.ends (first + k))
    && may_write c.registers (Wire session) ((first + k) / 4))

-- "mailbox, first byte at 2008h, MB_EN 1, neither PUT set"
unfoldable pub mailbox_acked : Mailbox → ℕ → Bool
mailbox_acked mailbox first = eqb first mailbox_first && mailbox.enabled && not mailbox.host.put && not mailbox.rf.put

-- user space; "RF_MNGT_Dyn and MB_CTRL_Dyn, always": the byte after either is read only
unfoldable pub user_acked : Core → Bool → ℕ → ℕ → Bool
user_acked c session first k =
    pick (ltb first user_bytes) (memory_acked c session first k)
    (pick (host_writes first) (eqb k 0)
    (mailbox_acked c.mailbox first))
