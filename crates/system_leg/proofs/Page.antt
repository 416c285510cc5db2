-- The parts of a page. Assumes nothing.
use mathlib.Core.Path.{◌≡◌, refl, ap}
use mathlib.Core.List.{List, [], ◌∷◌, ◌++◌}
use Prim.Native.Nat.{ℕ, zero, suc, ◌+◌, ◌≤◌}
use native.Mathlib.Omega.{arith}
use lib.ListN.{get_or}
use Rattle.parts.specs.Bytes.{bytes_at}
use Rattle.parts.proofs.Lists.{bytes_at_get_d}

-- a run within a run
pub bytes_at_within : (m : List ℕ) (at k i n : ℕ) → i + n ≤ k → bytes_at (bytes_at m at k) i n ≡ bytes_at m (at + i) n
unfolding bytes_at
bytes_at_within m at k i zero h = refl
bytes_at_within m at k i (suc n) h =
    rw (bytes_at_within m at k i n (omega arith), bytes_at_get_d m at k (i + n) 0 (omega arith))
    (ap (λ (j : ℕ). bytes_at m (at + i) n ++ get_or m j 0 ∷ []) (omega arith))
