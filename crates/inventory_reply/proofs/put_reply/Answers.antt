use mathlib.Core.Path.{◌∙◌}
use mathlib.Core.List.{◌∷◌}
use native.Mathlib.Omega.{arith}
use Rattle.parts.specs.Bytes.{bytes_at}
use Rattle.parts.proofs.Lists.{length_bytes_at}
use Rattle.reply.proofs.Finish.{good_run}
use Rattle.inventory_reply.proofs.put_reply.Goals as goal

pub returns : goal.returns
returns c =
    let a = c.args in
    let uid = bytes_at a.u.bytes 0 8 in
    good_run (a.dsfid.bits ∷ uid) a.out.now _ 10 (omega (arith, length_bytes_at a.u.bytes 0 8))
    (c.put_bytes.ensures ∙ rw (c.put-2.ensures, c.put.ensures))
    c.close.ensures
