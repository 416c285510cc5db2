use Rattle.register_table.specs.Table.{register_count}
use Rattle.registers.specs.Map.{register_bytes}
use Rattle.registers.proofs.Bytes.{bytes_count}
use Rattle.state.proofs.Places.{bytes_at_whole}
use Rattle.state_encode.proofs.put_registers.Goals as goal

pub returns : goal.returns
returns c =
    let a = c.args in
    rw (c.put_bytes.ensures, c.to_bytes-b.ensures, bytes_at_whole (register_bytes a.r) register_count (bytes_count a.r))
