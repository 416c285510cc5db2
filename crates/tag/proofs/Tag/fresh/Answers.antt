use Rattle.tag.specs.Supply.{fresh_tag}
use Rattle.tag.proofs.Tag.fresh.Goals as goal

pub returns : goal.returns
unfolding fresh_tag
returns c =
    rw (c.fresh-5.ensures, c.fresh-4.ensures, c.fresh-3.ensures, c.fresh-2.ensures, c.fresh.ensures)
