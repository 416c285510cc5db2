use lib.Bits.{bit_and, and_mask}
use mathlib.Core.Path.{ap, ◌∙◌}
use Rattle.register_types.proofs.DefinedBits.keep.Goals as goal

pub returns : goal.returns
returns g c =
    let a = c.args in
    ap (bit_and a.byte) (c.MASK.ensures ∙ g.met.Self.DefinedBits.masked) ∙ and_mask a.byte g.Self.DefinedBits.defined
