use mathlib.Core.Path.{sym, ◌∙◌}
use Rattle.parts.specs.Bytes.{bytes_at}
use Rattle.parts.proofs.Lists.{replaced, length_bytes_at}
use Rattle.parts.proofs.eight_at.Goals as goal

pub returns : goal.returns
returns c =
    let b = bytes_at c.args.s.now c.args.at 8 in
    c.put_bytes.ensures ∙ replaced b _ (sym (length_bytes_at c.args.s.now c.args.at 8))
