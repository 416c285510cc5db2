use Rattle.parts.proofs.Picks.{picks}
use Rattle.collision_search.proofs.slot_count.Goals as goal

pub returns-then-opens_sixteen : goal.returns-then-opens_sixteen
returns-then-opens_sixteen c = rw (← c.opens_sixteen.ensures) (search picks depth 20)

pub returns : goal.returns
returns c = rw (← c.opens_sixteen.ensures) (search picks depth 20)
