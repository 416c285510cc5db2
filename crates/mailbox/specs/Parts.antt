-- One part of the mailbox replaced, the rest as it was. These alone write its records out, so that a field more is one entry in each setter of its record.
use Rattle.std.specs.Prelude.{Bool, ℕ}
use Rattle.mailbox.specs.declared.Message.{Message}
use Rattle.mailbox.specs.declared.Mailbox.{Mailbox}

-- ---- one side's bits of MB_CTRL_Dyn
abbrev pub with_put : Bool → Message → Message
with_put x message = record { put = x; current = message.current }

abbrev pub with_current : Bool → Message → Message
with_current x message = record { put = message.put; current = x }

-- ---- the mailbox
abbrev pub with_enabled : Bool → Mailbox → Mailbox
with_enabled x mailbox = record { enabled = x; host = mailbox.host; rf = mailbox.rf; length = mailbox.length }

abbrev pub with_host_message : Message → Mailbox → Mailbox
with_host_message message mailbox = record { enabled = mailbox.enabled; host = message; rf = mailbox.rf; length = mailbox.length }

abbrev pub with_rf_message : Message → Mailbox → Mailbox
with_rf_message message mailbox = record { enabled = mailbox.enabled; host = mailbox.host; rf = message; length = mailbox.length }

abbrev pub with_length : ℕ → Mailbox → Mailbox
with_length n mailbox = record { enabled = mailbox.enabled; host = mailbox.host; rf = mailbox.rf; length = n }
