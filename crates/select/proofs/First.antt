-- The first address of a leg whose page grows by a byte. Assumes nothing.
use Rattle.std.proofs.Common.{◌≡◌, ℕ, suc, ◌<◌, arith}
use Rattle.bus.specs.Bus.{next_address}
use Rattle.select.specs.Select.{first_of}

-- an Acked byte leaves the leg's first address
pub first_next : (c k : ℕ) → k < 256 → first_of (next_address c) (suc k) ≡ first_of c k
unfolding first_of
first_next c k h = omega arith
