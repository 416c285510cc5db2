use mathlib.Core.Path.{refl}
use Rattle.register_table.specs.Table.{place_bits}
use Rattle.register_table.proofs.Rows.{masked}
use Rattle.register_table.proofs.keep_defined.Goals as goal

pub returns : goal.returns
unfolding place_bits
returns c = let a = c.args in rw (c.byte_at.ensures, masked a.byte a.place _ refl)
