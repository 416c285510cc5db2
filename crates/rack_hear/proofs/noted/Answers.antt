use Rattle.rack_hear.proofs.noted.Goals as goal

-- src/lib.rt:111:1
pub returns : goal.returns
returns c = rw (c.first_reply.ensures, c.is_reply-replied.ensures)
