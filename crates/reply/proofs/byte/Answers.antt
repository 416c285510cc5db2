use mathlib.Core.Path.{◌∙◌}
use Rattle.reply.specs.Reply.{answer_of, buffer_of}
use Rattle.reply.proofs.byte.Goals as goal

pub returns : goal.returns
unfolding answer_of buffer_of
returns c =
    c.close.ensures ∙ rw (c.put-2.ensures, c.put.ensures)
