-- A tag's bytes stored and changed. Assumes nothing.
use mathlib.Core.Path.{◌≡◌, sym, ap, ◌∙◌}
use mathlib.Core.List.{List}
use Prim.Native.Nat.{ℕ}
use native.Mathlib.Omega.{arith}
use lib.ListN.{length, take}
use lib.Seq.{sets, take_all}
use Rattle.parts.proofs.Lists.{replaced}
use Rattle.tag.specs.declared.Tag.{Tag}
use Rattle.state.specs.Layout.{bytes_of, state_bytes}
use Rattle.example_states.specs.Store.{StoreResult, store_of}
use Rattle.example_states.specs.States.{patch_by, patch_of}

-- a buffer of the state's length holds its bytes alone
pub encoded : (t : Tag) (s e : List ℕ) → length s ≡ state_bytes → length (bytes_of t) ≡ state_bytes → e ≡ sets s 0 (bytes_of t) → e ≡ bytes_of t
encoded t s e h k q = q ∙ replaced (bytes_of t) s (h ∙ sym k)

-- all of its bytes
pub all_bytes : (t : Tag) → length (bytes_of t) ≡ state_bytes → take state_bytes (bytes_of t) ≡ bytes_of t
all_bytes t k = take_all state_bytes (bytes_of t) (omega (arith, k))

-- what a line makes of them
pub patched_by : (t : Tag) (b e : List ℕ) (p : StoreResult) → e ≡ bytes_of t → p ≡ store_of e b → patch_by p ≡ patch_of t b
patched_by t b e p h q = ap patch_by (q ∙ ap (λ (l : List ℕ). store_of l b) h)
