use mathlib.Core.Path.{◌≡◌}
use Prim.Native.Nat.{◌+◌}
use lib.ListN.{length}
use lib.Seq.{sets}
use Rattle.blocks.specs.Blocks.{blocks_of}
use Rattle.blocks.proofs.put_blocks.Given as goal

abbrev pub invariant-loop-k : goal.invariant-loop-k
invariant-loop-k l =
    (l.at ≡ 1 + length (blocks_of l.c.registers l.session l.m l.option l.first l.k))
    × (l.out ≡ sets l.initial.out 1 (blocks_of l.c.registers l.session l.m l.option l.first l.k))
