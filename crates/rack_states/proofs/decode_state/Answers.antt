use Rattle.parts.proofs.Picks.{picks}
use Rattle.rack_states.proofs.decode_state.Goals as goal

pub returns-then-s-ne-STATE_BYTES : goal.returns-then-s-ne-STATE_BYTES
returns-then-s-ne-STATE_BYTES c = rw c.spare_tag.ensures (search picks depth 20)

pub returns : goal.returns
returns c = rw c.decode.ensures (search picks depth 20)
