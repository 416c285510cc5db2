use Rattle.std.proofs.Common.{rules, sym, subst, take}
use Rattle.std.specs.Io.KnownBytes.{Appends}
use Rattle.console.proofs.Written.{grown}
use Rattle.console.proofs.write_all.Goals as goal
use Rattle.console.proofs.write_all.Goals.{in-Ok, in-Err+else-not-interrupted}

pub loop-done-preserved : goal.loop-done-preserved
loop-done-preserved g c =
    let s = c.args.s.now in
    elim c.match-write.branch [
      | in-Ok w ↦ (search rules, subst (λ n. Appends (g.W.Write.contents c.args.to.now) (g.W.Write.contents c.write.new.self) (take n s)) (sym w.done-is) (grown _ _ _ s c.loop-done.done w.in-Ok.n c.loop-done.invariant.1 w.in-Ok.ensures.bytes))
      | in-Err+else-not-interrupted w ↦ search rules
    ]
