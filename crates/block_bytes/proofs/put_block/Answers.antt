use mathlib.Core.Path.{sym, ap, ◌∙◌}
use lib.Seq.{sets}
use Rattle.block_bytes.proofs.Block.{block_with, block_plain, length_with, length_plain}
use Rattle.block_bytes.proofs.put_block.Goals as goal

pub returns-then-option : goal.returns-then-option
returns-then-option c =
    let h = c.if-option.true in
    let a = c.args in
    record {
      value = sym (length_with a.c.registers a.session a.m.now a.option a.block h);
      part_after = c.put_bytes.ensures
          ∙ rw (c.put.ensures, c.status_of-status.ensures)
          (ap (sets a.part.now 0) (sym (block_with a.c.registers a.session a.m.now a.option a.block h)));
    }

pub returns : goal.returns
returns c =
    let h = c.if-option.false in
    let a = c.args in
    record {
      value = sym (length_plain a.c.registers a.session a.m.now a.option a.block h);
      part_after = c.put_bytes-2.ensures
          ∙ ap (sets a.part.now 0) (sym (block_plain a.c.registers a.session a.m.now a.option a.block h));
    }
