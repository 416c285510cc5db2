use Rattle.std.proofs.Common.{List, ℕ, Bor, subst, inl, inr}
use Rattle.console.specs.Written.{AppendsStart}
use Rattle.console.proofs.Written.{some_written}
use Rattle.line_output.proofs.run.Goals as goal
use Rattle.line_output.proofs.run.Goals.{in-Err-Read, in-Err-Write}

pub returns-clause-told : goal.returns-clause-told
returns-clause-told g c =
    let a = g.E.Write.contents c.args.err.now in
    let b = g.E.Write.contents c.write_all.new.to in
    let e = some_written c.write_all.result a b c.match-this.told.now c.write_all.ensures.all c.write_all.ensures.failed in
    elim c.match-this.branch [
      | in-Err-Read w ↦ inl (subst (λ (x : Bor (List ℕ)). AppendsStart a b x.now) w.told-is e)
      | in-Err-Write w ↦ inr (subst (λ (x : Bor (List ℕ)). AppendsStart a b x.now) w.told-is e)
    ]
