use Rattle.std.specs.Prelude.{Option, Some, None, unwrap_or}
use Rattle.std.proofs.Common.{◌≡◌, refl}
use Rattle.signal_table.specs.declared.Signal.{Signal}
use Rattle.signal_table.specs.declared.Signal.TheVariants.{Frame}
use Rattle.signal_table.specs.Table.{signal_in, signal_by}
use Rattle.signal_table.proofs.signal_by.Goals as goal

in_or : (found : Option Signal) → unwrap_or found Frame ≡ signal_in found
unfolding signal_in
in_or None = refl
in_or (Some signal) = refl

pub returns : goal.returns
unfolding signal_by
returns c = rw (c.unwrap_or.ensures, c.signal_found.ensures) (in_or _)
