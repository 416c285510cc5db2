use mathlib.Core.Path.{◌≡◌}
use lib.Seq.{sets}
use Rattle.block_status.specs.Status.{statuses_of}
use Rattle.block_status.proofs.put_statuses.Given as goal

abbrev pub invariant-loop-k : goal.invariant-loop-k
invariant-loop-k l = l.out ≡ sets l.initial.out 1 (statuses_of l.c.registers l.session l.first l.k)
