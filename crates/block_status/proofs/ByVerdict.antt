-- The status byte is the verdict's yes or no. Assumes nothing.
use mathlib.Core.Path.{sym, ap}
use mathlib.Core.Bool.{Bool}
use Rattle.parts.specs.Pick.{pick}
use Rattle.write_verdict.proofs.Passed.{block_allowed}
use Rattle.block_status.specs.Status.{status_of}
use Rattle.block_status.specs.Claims.{StatusByVerdict}

pub status_by_verdict : StatusByVerdict
unfolding status_of
status_by_verdict c session block = ap (λ (b : Bool). pick b 0 1) (sym (block_allowed c session block))
