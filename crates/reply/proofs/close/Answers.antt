use Rattle.reply.proofs.close.Goals as goal

pub returns : goal.returns
returns c = rw c.close.ensures
