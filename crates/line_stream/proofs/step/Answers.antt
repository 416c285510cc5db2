use borrow.Author.Rules.{rules}
use borrow.Author.Tests.{ltb-true, leb-true}
use native.Mathlib.Omega.{arith}
use mathlib.Core.Path.{◌≡◌, refl, ap, ◌∙◌}
use mathlib.Core.List.{List}
use Prim.Native.Nat.{ℕ, ◌-◌, ◌≤◌, ◌<◌}
use lib.Dec.{ltb, leb}
use lib.ListN.{length, take}
use Rattle.parts.proofs.Bools.{and_left, and_right}
use Rattle.line_stream.specs.State.{state_of}
use Rattle.line_stream.specs.Step.{piece_by, puts}
use Rattle.unfinished.proofs.Held.{take_within}
use Rattle.line_stream.proofs.Turn.{begins, turns, ends}
use Rattle.line_stream.proofs.step.Goals as goal

pub loop-end-init : goal.loop-end-init
loop-end-init g c =
    let a = c.args in
    let n = c.kept_count-n in
    let k : length a.kept.now ≡ 1201 = search rules in
    ((refl, refl), begins g.P.AnswersLines.program (state_of a.on.now) a.kept.now a.s.now a.out.now n.result c.line_end-end.result (omega (arith, k, n.ensures)) c.line_end-end.ensures)

pub loop-end-preserved : goal.loop-end-preserved
loop-end-preserved g c =
    let a = c.args in
    let l = c.loop-end in
    let o = c.end_line-text in
    let r = length l.out - l.at in
    let less : l.end < length a.s.now = ltb-true l.end (length a.s.now) (and_left (ltb l.end (length a.s.now)) (leb 1342 r) c.loop-end-test.true) in
    let roomy : 1342 ≤ r = leb-true 1342 r (and_right (ltb l.end (length a.s.now)) (leb 1342 r) c.loop-end-test.true) in (
      (o.ensures.memory_lent ∙ l.invariant.0.0, o.ensures.reply_lent ∙ l.invariant.0.1),
      turns g.P.AnswersLines.program (state_of a.on.now) (take c.kept_count-n.result a.kept.now) a.s.now a.out.now (state_of l.on) l.kept l.out l.n l.from l.at l.end l.invariant.1
          g.met.P.AnswersLines.tells (state_of o.new.on) o.result o.new.kept o.new.text c.line_end-end-in-loop-end.result
          less roomy o.ensures.text_after o.ensures.length_le_text_room o.auto.text c.line_end-end-in-loop-end.ensures,
    )

pub returns-clause-out_after : goal.returns-clause-out_after
returns-clause-out_after g c =
    let a = c.args in
    let l = c.loop-end in
    let n = c.kept_count-n in
    let p = g.P.AnswersLines.program in
    let st = state_of a.on.now in
    ends p st (take n.result a.kept.now) a.s.now a.out.now (state_of l.on) l.kept l.out l.n l.from l.at l.end l.invariant.1 (take c.hold-rest.result c.hold-rest.new.kept) c.loop-end-test.false c.hold-rest.ensures.kept_after
    ∙ ap (λ (h : List ℕ). puts (piece_by p (length a.out.now) st h a.s.now) a.out.now) (take_within a.kept.now a.have n.result n.ensures)
