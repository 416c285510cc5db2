use Rattle.bus.proofs.Transfers.{counted_kept}
use Rattle.bus.proofs.counted_dynamic.Goals as goal

pub returns : goal.returns
returns c = rw c.kept_of.ensures (counted_kept c.args.transfer c.args.dynamic)
