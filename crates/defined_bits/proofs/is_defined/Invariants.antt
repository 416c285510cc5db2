use mathlib.Core.Path.{◌≡◌}
use lib.ListN.{length}
use Rattle.registers.specs.Map.{register_bytes}
use Rattle.defined_bits.specs.Defined.{defined_to}
use Rattle.defined_bits.proofs.is_defined.Given as goal

abbrev pub invariant-loop-byte : goal.invariant-loop-byte
invariant-loop-byte l = l.defined ≡ defined_to (length l.yielded) (register_bytes l.fn.r)
