use Rattle.parts.proofs.Picks.{picks}
use Rattle.capi_rack.proofs.bit_if.Goals as goal

pub returns-then-on : goal.returns-then-on
returns-then-on c = search picks depth 20

pub returns-else-on : goal.returns-else-on
returns-else-on c = search picks depth 20
