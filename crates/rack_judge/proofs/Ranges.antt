-- The ranges of a rack, judged tag by tag. Assumes nothing.
use mathlib.Core.Path.{◌≡◌, refl, sym, ap, ◌∙◌}
use mathlib.Core.Bool.{Bool, true, false, ◌&&◌}
use mathlib.Core.List.{List, [], ◌∷◌, ◌++◌}
use Prim.Native.Nat.{ℕ, suc, ◌*◌, ◌<◌}
use native.Mathlib.Omega.{arith}
use lib.ListN.{length, get_or, take, drop}
use lib.Seq.{take-suc, drop-drop, length-take-le}
use Rattle.tag.specs.declared.Tag.{Tag}
use Rattle.tag.specs.Layout.{memory_bytes}
use Rattle.refusals.specs.Refusals.{tag_in_range}
use Rattle.rack.specs.Passed.{Device, device}
use Rattle.rack.specs.Rack.{memory_size, memory_sizes, devices_of}
use Rattle.rack.specs.Rules.{all_in_range}

pub sizes_number : (ts : List Tag) → memory_sizes ts ≡ length ts * 1024
unfolding memory_sizes memory_size
sizes_number [] = refl
sizes_number (t ∷ ts) = let e = sizes_number ts in omega (arith, e)

-- ---- one tag more
parts_more : (ts : List Tag) (t : Tag) (m : List ℕ)
    → devices_of (ts ++ t ∷ []) m ≡ devices_of ts m ++ device t (take memory_bytes (drop (memory_sizes ts) m)) ∷ []
unfolding devices_of memory_sizes memory_size
parts_more [] t m = refl
parts_more (x ∷ ts) t m =
    ap (λ (l : List Device). device x (take memory_bytes m) ∷ l)
    (parts_more ts t (drop memory_bytes m)
    ∙ ap (λ (l : List ℕ). devices_of ts (drop memory_bytes m) ++ device t (take memory_bytes l) ∷ []) (drop-drop (memory_sizes ts) memory_bytes m))

and_assoc : (a b c : Bool) → ((a && b) && c) ≡ (a && (b && c))
and_assoc true b c = refl
and_assoc false b c = refl

and_all : (a : Bool) → (a && true) ≡ a
and_all true = refl
and_all false = refl

in_range_more : (ds : List Device) (d : Device) → all_in_range (ds ++ d ∷ []) ≡ (all_in_range ds && tag_in_range d.tag d.memory)
unfolding all_in_range
in_range_more [] d = and_all (tag_in_range d.tag d.memory)
in_range_more (x ∷ ds) d =
    ap (λ (b : Bool). tag_in_range x.tag x.memory && b) (in_range_more ds d)
    ∙ sym (and_assoc (tag_in_range x.tag x.memory) (all_in_range ds) (tag_in_range d.tag d.memory))

-- tag i, whose memory stands at a place
pub ranges_more : (tags : List Tag) (m : List ℕ) (i at n : ℕ) (z : Tag) (all one : Bool) → i < length tags → at ≡ i * 1024 → n ≡ 1024
    → all ≡ all_in_range (devices_of (take i tags) m) → one ≡ tag_in_range (get_or tags i z) (take n (drop at m))
    → (all && one) ≡ all_in_range (devices_of (take (suc i) tags) m)
ranges_more tags m i at n z all one h place size before now =
    let ts = take i tags in
    let t = get_or tags i z in
    let s = sizes_number ts in
    let l = length-take-le i tags (omega arith) in
    let e : at ≡ memory_sizes ts = omega (arith, s, l, place) in
    let own : one ≡ tag_in_range t (take memory_bytes (drop (memory_sizes ts) m)) =
    now ∙ ap (λ (k : ℕ). tag_in_range t (take k (drop at m))) size ∙ ap (λ (k : ℕ). tag_in_range t (take memory_bytes (drop k m))) e
    in
    ap (λ (b : Bool). b && one) before
    ∙ ap (λ (b : Bool). all_in_range (devices_of ts m) && b) own
    ∙ sym (ap (λ (x : List Tag). all_in_range (devices_of x m)) (take-suc tags i z h) ∙ ap all_in_range (parts_more ts t m) ∙ in_range_more (devices_of ts m) (device t (take memory_bytes (drop (memory_sizes ts) m))))
