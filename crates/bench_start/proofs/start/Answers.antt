use Rattle.std.proofs.Common.{◌-◌}
use Rattle.bench_start.specs.Start.{bench_start_of}
use Rattle.bench_start.proofs.start.Goals as goal

pub returns : goal.returns
unfolding bench_start_of
returns c = rw (← c.fresh-o.ensures)
