use Rattle.ranges.specs.Ranges.{host_in_range}
use Rattle.ranges.proofs.host_in_range.Goals as goal

pub returns : goal.returns
unfolding host_in_range
returns c =
    rw (c.transfer_in_range.ensures, c.transfer_at.ensures, c.is_open.ensures, c.page_bytes.ensures)
