use Rattle.state.proofs.Passwords.{Eights, passwords_length}
use Rattle.state_encode.proofs.Stored.{passwords_stored}
use Rattle.state_encode.proofs.put_passwords.Goals as goal

pub returns : goal.returns
returns c =
    let a = c.args in
    let i2c = c.put_eight.ensures in
    let rf0 = c.put_eight-2.ensures in
    let rf1 = c.put_eight-3.ensures in
    let rf2 = c.put_eight-4.ensures in
    let rf3 = c.put_eight-5.ensures in
    let e : Eights a.p = record { i2c = i2c.bytes_len; rf0 = rf0.bytes_len; rf1 = rf1.bytes_len; rf2 = rf2.bytes_len; rf3 = rf3.bytes_len } in
    record { s_after = passwords_stored a.p a.s.now a.at _ _ _ _ _ e i2c.s_after rf0.s_after rf1.s_after rf2.s_after rf3.s_after; p_len = passwords_length a.p e }
