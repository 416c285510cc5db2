-- What is done was written.
use Rattle.std.proofs.Common.{◌≤◌, length, take}
use Rattle.std.specs.Io.KnownBytes.{Appends}
use Rattle.console.proofs.write_all.Given as goal

abbrev pub invariant-loop-done : goal.invariant-loop-done
invariant-loop-done g l = (l.done ≤ length l.s) × Appends (g.W.Write.contents l.initial.to) (g.W.Write.contents l.to) (take l.done l.s)

abbrev pub decreases-loop-done : goal.decreases-loop-done
decreases-loop-done g l = l.calls
