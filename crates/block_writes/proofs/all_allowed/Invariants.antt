use mathlib.Core.Path.{◌≡◌}
use Rattle.block_writes.specs.Claims.{all_allowed}
use Rattle.block_writes.proofs.all_allowed.Given as goal

abbrev pub invariant-loop-k : goal.invariant-loop-k
invariant-loop-k l = l.all ≡ all_allowed l.c l.session l.first l.k
