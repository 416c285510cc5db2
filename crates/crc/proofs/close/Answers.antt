use native.Mathlib.Omega.{arith}
use mathlib.Core.Path.{sym}
use Rattle.crc.proofs.Frames.{closed_past, stored_crc}
use Rattle.crc.proofs.close.Goals as goal
use Rattle.crc.proofs.close.Goals.{then-out-lt2-via-then-out-lt2, then-out-lt2-via-else-out-lt2+then-out-n}

pub returns-then-out-lt2 : goal.returns-then-out-lt2
returns-then-out-lt2 c =
    let a = c.args in
    sym (closed_past a.out.now a.n (elim c.then-out-lt2.branch [ then-out-lt2-via-then-out-lt2 w ↦ omega arith | then-out-lt2-via-else-out-lt2+then-out-n w ↦ omega arith ]))

pub returns : goal.returns
returns c =
    let a = c.args in
    rw c.to_le_bytes.ensures (stored_crc a.out.now a.n c.crc.result (omega arith) c.crc.type_inv c.crc.ensures)
