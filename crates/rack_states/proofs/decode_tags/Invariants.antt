use Rattle.rack_states.proofs.Decoding.{Decoding}
use Rattle.rack_states.proofs.decode_tags.Given as goal

abbrev pub invariant-loop-i : goal.invariant-loop-i
invariant-loop-i l = Decoding l.s l.tags l.i
