use mathlib.Core.Path.{◌≡◌}
use lib.ListN.{drop}
use Rattle.crc.specs.Crc.{run}
use Rattle.crc.proofs.over.Given as goal

-- what is left to run from here gives what the whole gives from the start
abbrev pub invariant-loop-x : goal.invariant-loop-x
invariant-loop-x l = run l.c (drop l.x-index l.s) ≡ run 0xffff l.s
