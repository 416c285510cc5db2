-- A tag's bytes are bytes. Assumes nothing.
use Rattle.parts.proofs.Below.{are_append}
use Rattle.registers.specs.Map.{register_bytes}
use Rattle.state.specs.Layout.{air_bytes, host_bytes, mailbox_bytes, password_bytes, bytes_of}
use Rattle.state.specs.Claims.{EncodesBytes}
use Rattle.state.proofs.Air.{air_bytes_lem}
use Rattle.state.proofs.Host.{host_bytes_lem}
use Rattle.state.proofs.Mailbox.{mailbox_bytes_lem}
use Rattle.state.proofs.Passwords.{eight_bytes, password_bytes_lem}

pub encodes_bytes : EncodesBytes
unfolding bytes_of
encodes_bytes t f =
    are_append (air_bytes t.air) _ (air_bytes_lem t.air f.session f.slots)
    (are_append (host_bytes t.host) _ (host_bytes_lem t.host f.counter f.bus)
    (are_append (register_bytes t.core.registers) _ f.registers
    (are_append (mailbox_bytes t.core.mailbox) _ (mailbox_bytes_lem t.core.mailbox f.message)
    (are_append (password_bytes t.core.passwords) t.uid.bytes (password_bytes_lem t.core.passwords f.passwords) (eight_bytes t.uid.bytes f.uid)))))
