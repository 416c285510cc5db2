use Rattle.capi_rack.proofs.Masking.{Masking}
use Rattle.capi_rack.proofs.mask.Given as goal

abbrev pub invariant-loop-i : goal.invariant-loop-i
invariant-loop-i l = Masking l.answered l.mask l.bit l.i
