use mathlib.Core.Path.{sym, ap, ◌∙◌}
use Prim.Native.Nat.{◌-◌}
use native.Mathlib.Omega.{arith}
use lib.ListN.{length}
use borrow.Rule.Slice.PartMut.{put_mid}
use Rattle.block_bytes.specs.Block.{block_of}
use Rattle.block_bytes.proofs.Part.{sets_past, part_sets}
use Rattle.block_bytes.proofs.Block.{length_with, length_plain}
use Rattle.block_bytes.proofs.put_block_at.Goals as goal

pub returns-then-option : goal.returns-then-option
returns-then-option c =
    let a = c.args in
    record { value = sym (length_with a.c.registers a.session a.m.now a.option a.block c.if-option.true); out_after = sym (sets_past (block_of a.c.registers a.session a.m.now a.option a.block) a.out.now a.at (omega arith)) }

pub returns-then-out-from : goal.returns-then-out-from
returns-then-out-from c =
    let a = c.args in
    record { value = sym (length_plain a.c.registers a.session a.m.now a.option a.block c.if-option.false); out_after = sym (sets_past (block_of a.c.registers a.session a.m.now a.option a.block) a.out.now a.at (omega arith)) }

pub returns : goal.returns
returns c =
    let part = c.put_block in
    let a = c.args in
    let o = a.out.now in
    record {
      value = part.ensures.value;
      out_after = ap (put_mid a.at (length o - a.at) o) part.ensures.part_after
          ∙ part_sets (block_of a.c.registers a.session a.m.now a.option a.block) o a.at (omega arith);
    }
