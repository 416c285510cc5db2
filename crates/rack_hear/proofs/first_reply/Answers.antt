use Rattle.parts.proofs.Picks.{picks}
use Rattle.rack_hear.proofs.first_reply.Goals as goal

-- src/lib.rt:105:9
pub returns-then-heard : goal.returns-then-heard
returns-then-heard c = search picks depth 20

-- src/lib.rt:101:1
pub returns : goal.returns
returns c = search picks depth 20
