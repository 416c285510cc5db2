use mathlib.Core.Path.{◌≡◌}
use lib.Seq.{sets}
use Rattle.parts.specs.Bytes.{bytes_at}
use Rattle.parts.proofs.put_run.Given as goal

abbrev pub invariant-loop-i : goal.invariant-loop-i
invariant-loop-i l = l.m ≡ sets l.initial.m l.at (bytes_at l.s l.from l.i)
