use Rattle.state.proofs.There.{bytes_length}
use Rattle.state_encode.proofs.Stored.{tag_stored}
use Rattle.state_encode.proofs.encode.Goals as goal

pub returns : goal.returns
returns c =
    let a = c.args in
    let keys = c.put_passwords.ensures in
    let uid = c.put_eight.ensures in
    record { s_after = tag_stored a.t a.s.now _ _ _ _ _ _ keys.p_len c.put_air.ensures c.put_host.ensures c.put_registers.ensures c.put_mailbox.ensures keys.s_after uid.s_after; t_len = bytes_length a.t keys.p_len uid.bytes_len }
