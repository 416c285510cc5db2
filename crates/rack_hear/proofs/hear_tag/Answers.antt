use mathlib.Core.Path.{refl}
use Prim.Native.Nat.{◌-◌}
use lib.ListN.{length}
use Rattle.parts.proofs.Picks.{picks, pick_true, pick_le, pick_not_le, pick_lt, pick_not_lt}
use Rattle.rack_hear.specs.Hear.{hear_of}
use Rattle.rack_hear.proofs.hear_tag.Goals as goal
use Rattle.rack_hear.proofs.hear_tag.Goals.{then-heard-i-via-then-heard-i, then-heard-i-via-else-heard-i+then-i-gt15, then-heard-i-via-else-heard-i+else-i-gt15+then-memory-heard, then-heard-i-via-else-heard-i+else-i-gt15+else-memory-heard+then-memory-heard-lt-MEMORY_BYTES}

pub returns-then-heard-i : goal.returns-then-heard-i
unfolding hear_of
returns-then-heard-i c =
    let a = c.args.heard in
    let i = c.args.i in
    let m = c.args.memory.now in
    elim c.then-heard-i.branch [
      | then-heard-i-via-then-heard-i w ↦ pick_le _ _ _ a.number i w.if-heard-i.true refl
      | then-heard-i-via-else-heard-i+then-i-gt15 w ↦
          pick_not_le _ _ _ a.number i w.if-heard-i.false (pick_lt _ _ _ 15 i w.if-i-gt15.true refl)
      | then-heard-i-via-else-heard-i+else-i-gt15+then-memory-heard w ↦
          pick_not_le _ _ _ a.number i w.if-heard-i.false (pick_not_lt _ _ _ 15 i w.if-i-gt15.false (pick_lt _ _ _ (length m) a.at w.if-memory-heard.true refl))
      | then-heard-i-via-else-heard-i+else-i-gt15+else-memory-heard+then-memory-heard-lt-MEMORY_BYTES w ↦
          pick_not_le _ _ _ a.number i w.if-heard-i.false
          (pick_not_lt _ _ _ 15 i w.if-i-gt15.false
          (pick_not_lt _ _ _ (length m) a.at w.if-memory-heard.false
          (pick_lt _ _ _ (length m - a.at) 1024 w.if-memory-heard-lt-MEMORY_BYTES.true refl)))
    ]

pub returns-then-to_all-i : goal.returns-then-to_all-i
unfolding hear_of
returns-then-to_all-i c =
    let a = c.args.heard in
    let i = c.args.i in
    let m = c.args.memory.now in
    rw (← c.to_all.ensures)
    (pick_not_le _ _ _ a.number i c.if-heard-i.false
    (pick_not_lt _ _ _ 15 i c.if-i-gt15.false
    (pick_not_lt _ _ _ (length m) a.at c.if-memory-heard.false
    (pick_not_lt _ _ _ (length m - a.at) 1024 c.if-memory-heard-lt-MEMORY_BYTES.false
    (pick_true _ _ _ _ c.if-to_all-i.true c.act_at.ensures)))))

pub returns : goal.returns
unfolding hear_of
returns c =
    rw (c.passed.ensures, ← c.to_all.ensures) (search picks depth 20)
