use Rattle.parts.proofs.Picks.{picks}
use Rattle.state.specs.Layout.{bus_of}
use Rattle.state_decode.proofs.bus_of.Goals as goal

pub returns-then-flag : goal.returns-then-flag
unfolding bus_of
returns-then-flag c = rw c.if-flag.true (search (picks, c.in-1.is) depth 20)

pub returns-else-flag : goal.returns-else-flag
unfolding bus_of
returns-else-flag c = rw c.if-flag.false (search (picks, c.in-1.is) depth 20)

pub returns-in-2 : goal.returns-in-2
unfolding bus_of
returns-in-2 c = search (picks, c.in-2.is) depth 20

pub returns-in-3 : goal.returns-in-3
unfolding bus_of
returns-in-3 c = search (picks, c.in-3.is) depth 20

pub returns-in-4 : goal.returns-in-4
unfolding bus_of
returns-in-4 c = search (picks, c.in-4.is) depth 20

pub returns-in-5 : goal.returns-in-5
unfolding bus_of
returns-in-5 c = search (picks, c.in-5.is) depth 20

pub returns-in_default : goal.returns-in_default
unfolding bus_of
returns-in_default c = search picks depth 20
