use Rattle.rack_search.specs.Search.{opens_sixteen}
use Rattle.collision_search.proofs.opens_sixteen.Goals as goal

pub returns : goal.returns
unfolding opens_sixteen
returns c = rw (c.is_malformed-malformed.ensures, c.is_good-good.ensures, c.byte_at-flags.ensures)
