use mathlib.Core.Path.{◌∙◌}
use Rattle.reply.specs.Reply.{answer_of, buffer_of}
use Rattle.reply.proofs.done.Goals as goal

pub returns : goal.returns
unfolding answer_of buffer_of
returns c =
    c.close.ensures ∙ rw c.put.ensures
