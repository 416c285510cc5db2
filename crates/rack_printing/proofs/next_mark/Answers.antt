use Rattle.parts.proofs.Picks.{picks}
use Rattle.rack_printing.proofs.next_mark.Goals as goal

pub returns-then-answered : goal.returns-then-answered
returns-then-answered c = search picks depth 20

pub returns : goal.returns
returns c = search picks depth 20
