-- The mailbox but for its bytes: MB_CTRL_Dyn and the message's length.
-- "MB_CTRL_Dyn: b0 MB_EN, b1 HOST_PUT, b2 RF_PUT, b6 HOST_CURRENT, b7 RF_CURRENT."
use Rattle.std.specs.Prelude.{Bool, true, false, ◌&&◌, ℕ, ◌+◌, ◌-◌, ◌%◌}
use Rattle.register_types.specs.Passed.{pick, is_set}
use Rattle.register_types.specs.declared.MbMode.{MbMode}
use Rattle.mailbox.specs.declared.Message.{Message}
use Rattle.mailbox.specs.declared.Mailbox.{Mailbox}
use Rattle.mailbox.specs.Parts.{with_put, with_current, with_enabled, with_host_message, with_rf_message, with_length}

abbrev pub weight : Bool → ℕ → ℕ
weight on n = pick on n 0

-- MB_CTRL_Dyn
unfoldable pub control_byte : Mailbox → ℕ
control_byte mailbox =
    weight mailbox.enabled 0x01
    + weight mailbox.host.put 0x02
    + weight mailbox.rf.put 0x04
    + weight mailbox.host.current 0x40
    + weight mailbox.rf.current 0x80

-- "MB_LEN_Dyn is length minus 1, or 0 when empty": one byte, for a length of at most 256
unfoldable pub length_byte : Mailbox → ℕ
length_byte mailbox = (mailbox.length - 1) % 256

abbrev pub no_message : Message
no_message = record { put = false; current = false }

-- "clearing it [b0] empties the mailbox (length and b1 to b7 zero, bytes kept)"
abbrev pub empty_mailbox : Mailbox
empty_mailbox = record { enabled = false; host = no_message; rf = no_message; length = 0 }

abbrev pub disabled : Mailbox → Mailbox
disabled mailbox = empty_mailbox

-- "Setting b0 works only with MB_MODE 1 and VCC, otherwise it stays as it was"
unfoldable pub enabled : MbMode → Bool → Mailbox → Mailbox
enabled mode vcc mailbox =
    pick (is_set 1 mode.bits && vcc) (with_enabled true mailbox)
    mailbox

-- a write of MB_CTRL_Dyn, "using bit 0 only"
unfoldable pub controlled : ℕ → MbMode → Bool → Mailbox → Mailbox
controlled x mode vcc mailbox = pick (is_set 1 x) (enabled mode vcc mailbox) (disabled mailbox)

-- "A put sets bytes, length, its PUT and CURRENT, and clears the other CURRENT."
abbrev pub put_message : Message
put_message = record { put = true; current = true }

abbrev pub replaced : Message → Message
replaced message = with_current false message

abbrev pub host_put : ℕ → Mailbox → Mailbox
host_put n mailbox = with_length n (with_host_message put_message (with_rf_message (replaced mailbox.rf) mailbox))

abbrev pub radio_put : ℕ → Mailbox → Mailbox
radio_put n mailbox = with_length n (with_rf_message put_message (with_host_message (replaced mailbox.host) mailbox))

-- "Fetching the last byte of an RF message clears RF_PUT"
abbrev pub host_read : Mailbox → Mailbox
host_read mailbox = with_rf_message (with_put false mailbox.rf) mailbox

-- "a till's reading of the last byte of a host message clears HOST_PUT"
abbrev pub radio_read : Mailbox → Mailbox
radio_read mailbox = with_host_message (with_put false mailbox.host) mailbox
