-- Laws of lines that hold a frame. Assumes nothing.
use mathlib.Core.Path.{◌≡◌, ap, ◌∙◌}
use mathlib.Core.List.{List}
use Prim.Native.Nat.{ℕ, ◌+◌, ◌≤◌}
use native.Mathlib.Omega.{arith}
use lib.ListN.{length, take, drop, length-append}
use lib.Seq.{sets, sets-eq, take_at}
use Rattle.crc.specs.Crc.{closed}

-- the frame's bytes with their CRC
pub frame_stored : (p o : List ℕ) (n : ℕ) → length p ≡ n → n + 2 ≤ length o → take (n + 2) (sets o 0 (closed p)) ≡ closed p
frame_stored p o n l h =
    let k : length (closed p) ≡ n + 2 = simp length-append (omega arith) in
    ap (λ (x : List ℕ). take (n + 2) x) (sets-eq (closed p) o 0 (omega arith))
    ∙ take_at (closed p) (drop (0 + length (closed p)) o) (n + 2) k
