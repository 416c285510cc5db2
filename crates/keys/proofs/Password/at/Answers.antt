use Rattle.keys.proofs.Password.at.Goals as goal

pub returns : goal.returns
returns c = rw c.eight_at.ensures
