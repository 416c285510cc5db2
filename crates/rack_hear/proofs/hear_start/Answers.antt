use Rattle.rack_hear.proofs.hear_start.Goals as goal

-- src/lib.rt:60:1
pub returns : goal.returns
returns c = rw c.no_reply.ensures
