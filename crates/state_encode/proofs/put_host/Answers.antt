use mathlib.Core.Path.{refl}
use mathlib.Core.List.{[], ◌∷◌}
use native.Mathlib.Omega.{arith}
use lib.ListN.{get_or}
use Rattle.state.specs.Layout.{host_bytes}
use Rattle.state_encode.proofs.Stored.{host_stored, byte_of_flag, first_of_le, second_of_le}
use Rattle.state_encode.proofs.put_host.Goals as goal

pub returns : goal.returns
unfolding host_bytes
returns c =
    let a = c.args in
    host_stored a.h a.s.now a.at (c.from.result ∷ c.from-2.result ∷ c.from-3.result ∷ get_or c.to_le_bytes-counter.result 0 0 ∷ get_or c.to_le_bytes-counter.result 1 0 ∷ []) _ _ _ (rw (c.from.ensures, c.from-2.ensures, c.from-3.ensures, byte_of_flag a.h.vcc, byte_of_flag a.h.session, byte_of_flag a.h.programming, c.to_le_bytes-counter.ensures, first_of_le a.h.counter, second_of_le a.h.counter (omega arith))) refl c.bus_bytes-leg.ensures c.put_bytes.ensures c.put_bytes-2.ensures
