use mathlib.Core.Path.{ap, ◌∙◌}
use mathlib.Core.List.{List}
use Prim.Native.Nat.{ℕ}
use Rattle.line_stream.specs.State.{state_of}
use Rattle.line_stream.specs.Step.{LineAnswer, stores_line}
use Rattle.line_stream.proofs.Held.{whole_line}
use Rattle.line_stream.proofs.end_line.Goals as goal

pub returns : goal.returns
returns g c =
    let a = c.args in
    let p = g.P.AnswersLines.program in
    let st = state_of a.on.now in
    record {
      memory_lent = c.line.ensures.memory_lent;
      reply_lent = c.line.ensures.reply_lent;
      text_after = c.line.ensures.text_after
          ∙ ap (λ (l : List ℕ). stores_line (p st l) a.text.now) (c.line_from.ensures ∙ c.join-n.ensures.kept_after)
          ∙ ap (λ r. stores_line r a.text.now) (whole_line p g.met.P.AnswersLines.tells st a.kept.now a.s.now a.have);
      length_le_text_room = c.line.ensures.length_le_text_room;
    }
