-- The memories of tags that stand end to end. Assumes nothing.
use mathlib.Core.Path.{◌≡◌, refl, ap, ◌∙◌}
use mathlib.Core.List.{List, [], ◌∷◌}
use Prim.Native.Nat.{ℕ, suc, ◌+◌, ◌*◌}
use native.Mathlib.Omega.{arith}
use lib.ListN.{length}
use Rattle.tag.specs.declared.Tag.{Tag}
use Rattle.tag.specs.Layout.{memory_bytes}
use Rattle.rack.specs.Rack.{memory_size, memory_sizes}
use Rattle.rack_states.specs.States.{tags_at}
use Rattle.rack_states.proofs.States.{tags_number}

-- each has the same
pub memory_sizes_lem : (ts : List Tag) → memory_sizes ts ≡ length ts * memory_bytes
unfolding memory_sizes memory_size
memory_sizes_lem [] = refl
memory_sizes_lem (t ∷ ts) =
    let e : memory_bytes + length ts * memory_bytes ≡ suc (length ts) * memory_bytes = omega arith in
    ap (λ (n : ℕ). memory_bytes + n) (memory_sizes_lem ts) ∙ e

pub sizes_at : (n : ℕ) (s : List ℕ) → memory_sizes (tags_at n s) ≡ n * memory_bytes
sizes_at n s = memory_sizes_lem (tags_at n s) ∙ ap (λ (k : ℕ). k * memory_bytes) (tags_number n s)
