use Rattle.text.proofs.place.put_mark.Goals as goal

pub returns : goal.returns
returns c = rw (c.after.ensures, c.put.ensures)
