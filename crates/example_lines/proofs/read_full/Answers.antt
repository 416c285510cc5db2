use Rattle.std.proofs.Common.{rules}
use Rattle.example_lines.proofs.Taken.{took}
use Rattle.example_lines.proofs.read_full.Goals as goal

pub loop-done-preserved : goal.loop-done-preserved
loop-done-preserved g c =
    let l = c.loop-done in
    (search rules, search rules, took _ _ _ l.input c.read.new.input l.done c.in-Ok.n _ l.invariant.1 (search rules) l.invariant.2 c.in-Ok.ensures.taken)
