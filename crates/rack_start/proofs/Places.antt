-- Where a tag's memory stands, in numbers, and a tag added. Assumes nothing.
use mathlib.Core.Path.{◌≡◌, refl, sym, ap, ◌∙◌}
use mathlib.Core.Bool.{true, not}
use mathlib.Core.List.{List, [], ◌∷◌}
use Prim.Native.Nat.{ℕ, ◌+◌, ◌*◌, ◌<◌, ◌≤◌}
use native.Mathlib.Omega.{arith}
use lib.Dec.{ltb}
use borrow.Author.Tests.{ltb-true}
use lib.ListN.{length, take, set, replicate, length-take, length-replicate}
use lib.Seq.{sets, take_all}
use Rattle.parts.specs.Bytes.{bytes_at}
use Rattle.parts.proofs.Bools.{and_right}
use Rattle.parts.proofs.Lists.{bytes_at_part}
use Rattle.parts.proofs.Picks.{pick_true}
use Rattle.keys.specs.declared.Uid.{Uid}
use Rattle.tag.specs.declared.Tag.{Tag}
use Rattle.tag.specs.Supply.{fresh_tag}
use Rattle.rack.specs.Rack.{memory_size, memory_sizes, memory_place}
use Rattle.rack_start.specs.declared.RackBench.{RackBench}
use Rattle.rack_start.specs.Start.{takes_tag, rack_added, added_tag}

pub sizes_are : (ts : List Tag) → memory_sizes ts ≡ 1024 * length ts
unfolding memory_sizes memory_size
sizes_are [] = refl
sizes_are (t ∷ ts) = omega (arith, sizes_are ts)

pub place_is : (ts : List Tag) (i : ℕ) → i ≤ length ts → memory_place ts i ≡ 1024 * i
place_is ts i h = omega (arith, sizes_are (take i ts), length-take i ts)

pub room_left : (b : RackBench) → takes_tag b ≡ true → b.count < 16
unfolding takes_tag
room_left b h = ltb-true b.count 16 (and_right (not b.begun) (ltb b.count 16) h)

pub zeros_are : bytes_at (replicate 1024 0) 0 1024 ≡ replicate 1024 0
zeros_are =
    let n = length-replicate {A = ℕ} 1024 0 in
    bytes_at_part (replicate 1024 0) 0 1024 (omega (arith, n)) ∙ take_all 1024 (replicate 1024 0) (omega (arith, n))

-- a tag and zeros stored behind the others
pub added_is : (u : Uid) (b : RackBench) (m k : List ℕ) (t : Tag) → takes_tag b ≡ true → length b.tags ≡ 16 → t ≡ fresh_tag u
    → k ≡ sets m (1024 * b.count) (bytes_at (replicate 1024 0) 0 1024)
    → rack_added (record { tags = set b.tags b.count t; count = b.count + 1; to = b.to; begun = b.begun; number = b.number }) k ≡ added_tag u b m
unfolding added_tag
added_is u b m k t h l e f =
    let i = b.count in
    ap (λ (x : Tag). rack_added (record { tags = set b.tags i x; count = i + 1; to = b.to; begun = b.begun; number = b.number }) k) e
    ∙ ap (λ (x : List ℕ). rack_added (record { tags = set b.tags i (fresh_tag u); count = i + 1; to = b.to; begun = b.begun; number = b.number }) x)
    (f
    ∙ ap (λ (z : List ℕ). sets m (1024 * i) z) zeros_are
    ∙ ap (λ (at : ℕ). sets m at (replicate 1024 0)) (sym (place_is b.tags i (omega (arith, room_left b h)))))
    ∙ pick_true _ _ _ (takes_tag b) h refl
