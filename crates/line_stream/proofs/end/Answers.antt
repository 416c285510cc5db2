use native.Mathlib.Omega.{arith}
use mathlib.Core.Path.{ap, sym, ◌∙◌}
use mathlib.Core.List.{List, [], ◌∷◌}
use Prim.Native.Nat.{ℕ}
use lib.ListN.{length, take, length-take}
use Rattle.line_stream.specs.State.{state_of}
use Rattle.line_stream.specs.Step.{piece_by, puts}
use Rattle.line_stream.proofs.Held.{end_none, end_some}
use Rattle.unfinished.proofs.Held.{take_within}
use Rattle.line_stream.proofs.end.Goals as goal

pub returns-then-held-eq0-clause-out_after : goal.returns-then-held-eq0-clause-out_after
returns-then-held-eq0-clause-out_after g c =
    let a = c.args in
    let n = c.kept_count-held in
    ap (λ r. puts r a.out.now) (sym (end_none g.P.AnswersLines.program (length a.out.now) (state_of a.on.now) (take a.have a.kept.now) (omega (arith, n.ensures, c.if-held-eq0.true, length-take a.have a.kept.now))))

pub returns-clause-out_after : goal.returns-clause-out_after
returns-clause-out_after g c =
    let a = c.args in
    let n = c.kept_count-held in
    let p = g.P.AnswersLines.program in
    let room = length a.out.now in
    let st = state_of a.on.now in
    let h = take a.have a.kept.now in
    c.step.ensures.out_after
    ∙ ap (λ (x : List ℕ). puts (piece_by p room st x (10 ∷ [])) a.out.now) (take_within a.kept.now a.have n.result n.ensures)
    ∙ ap (λ r. puts r a.out.now) (sym (end_some p room st h (λ z. c.if-held-eq0.false (omega (arith, n.ensures, length-take a.have a.kept.now)))))
