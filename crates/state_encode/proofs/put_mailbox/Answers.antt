use native.Mathlib.Omega.{arith}
use Rattle.parts.specs.Bytes.{bytes_at}
use Rattle.state.specs.Layout.{mailbox_bytes}
use Rattle.state_encode.proofs.Stored.{byte_of_flag, first_of_le, second_of_le}
use Rattle.state_encode.proofs.put_mailbox.Goals as goal

pub returns : goal.returns
unfolding bytes_at mailbox_bytes
returns c =
    let m = c.args.mailbox in
    rw (c.put_bytes.ensures, c.from-5.ensures, c.from-4.ensures, c.from-3.ensures, c.from-2.ensures, c.from.ensures, byte_of_flag m.enabled, byte_of_flag m.host.put, byte_of_flag m.rf.put, byte_of_flag m.host.current, byte_of_flag m.rf.current, c.to_le_bytes-length.ensures, first_of_le m.length, second_of_le m.length (omega arith))
