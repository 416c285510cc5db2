use Rattle.parts.proofs.Lists.{length_bytes_at}
use Rattle.rule_names.proofs.names.put_part.Goals as goal

pub returns : goal.returns
returns c =
    let a = c.args in
    rw (c.after.ensures, c.put_bytes.ensures, length_bytes_at a.s.now a.from a.n)
