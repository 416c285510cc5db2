use Rattle.state_decode.proofs.flag_at.Goals as goal

pub returns : goal.returns
returns c = rw c.byte_in.ensures
