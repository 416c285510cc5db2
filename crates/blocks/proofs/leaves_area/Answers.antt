use Rattle.blocks.specs.Blocks.{leaves_area}
use Rattle.blocks.proofs.leaves_area.Goals as goal

pub returns : goal.returns
unfolding leaves_area
returns c = rw (c.area_of_block-b.ensures, c.area_of_block-a.ensures)
