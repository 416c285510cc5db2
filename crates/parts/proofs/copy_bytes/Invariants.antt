use mathlib.Core.Path.{◌≡◌}
use Rattle.parts.specs.Bytes.{copied}
use Rattle.parts.proofs.copy_bytes.Given as goal

abbrev pub invariant-loop-i : goal.invariant-loop-i
invariant-loop-i l = l.m ≡ copied l.initial.m l.to l.from l.i
