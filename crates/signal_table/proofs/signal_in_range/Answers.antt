use Rattle.signal_table.specs.Table.{is_found, signal_in_range}
use Rattle.signal_table.proofs.signal_in_range.Goals as goal

pub returns : goal.returns
unfolding is_found signal_in_range
returns c = rw (c.is_some.ensures, c.signal_found.ensures)
