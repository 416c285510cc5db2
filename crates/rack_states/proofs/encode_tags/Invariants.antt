use Rattle.rack_states.proofs.Encoding.{Encoding}
use Rattle.rack_states.proofs.encode_tags.Given as goal

abbrev pub invariant-loop-i : goal.invariant-loop-i
invariant-loop-i l = Encoding l.initial.s l.tags l.s l.i
