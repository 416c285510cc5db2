use Rattle.std.proofs.Common.{◌≡◌, ◌-◌, length}
use Rattle.write_examples.proofs.lines.Given as goal

abbrev pub invariant-loop-at : goal.invariant-loop-at
invariant-loop-at g l = (length l.m ≡ length l.initial.m) × (length l.bytes ≡ length l.initial.bytes)

abbrev pub decreases-loop-at : goal.decreases-loop-at
decreases-loop-at g l = length l.s - l.at
