use mathlib.Core.Path.{◌≡◌}
use Rattle.parts.specs.Bytes.{bytes_at}
use Rattle.written_registers.specs.Written.{written_all}
use Rattle.written_registers.proofs.written_all.Given as goal

abbrev pub invariant-loop-i : goal.invariant-loop-i
invariant-loop-i l = l.n ≡ written_all l.initial.n l.first (bytes_at l.m 768 l.i)
