use mathlib.Core.Path.{sym, ap, ◌∙◌}
use Rattle.parts.specs.Bytes.{bytes_at}
use Rattle.parts.proofs.Lists.{length_bytes_at, replaced}
use Rattle.registers.specs.Map.{registers_of}
use Rattle.state.specs.Layout.{registers_part_length, registers_at}
use Rattle.state_decode.proofs.registers_at.Goals as goal

pub returns : goal.returns
unfolding registers_at
returns c =
    let a = c.args in
    let bytes = bytes_at a.s.now a.at registers_part_length in
    c.from_bytes.ensures ∙ ap registers_of (c.put_bytes.ensures ∙ replaced bytes _ (sym (length_bytes_at a.s.now a.at registers_part_length)))
