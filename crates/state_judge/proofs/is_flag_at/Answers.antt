use Rattle.state_judge.proofs.is_flag_at.Goals as goal

pub returns : goal.returns
returns c = rw c.byte_in.ensures
