-- States judged one after the other: what was found and what is left. Assumes nothing.
use mathlib.Core.Path.{◌≡◌, refl, sym, ap, ◌∙◌}
use mathlib.Core.Bool.{Bool, true, false, ◌&&◌}
use mathlib.Core.List.{List, []}
use Prim.Native.Nat.{ℕ, suc, ◌+◌, ◌-◌, ◌<◌}
use native.Mathlib.Omega.{arith}
use lib.ListN.{take, drop}
use lib.Seq.{drop-drop}
use Rattle.tag.specs.declared.Tag.{Tag}
use Rattle.tag.specs.Layout.{memory_bytes}
use Rattle.state.specs.Layout.{state_bytes, decodes, tag_of}
use Rattle.refusals.specs.Refusals.{tag_in_range}
use Rattle.rack.specs.Rack.{memory_size, devices_of}
use Rattle.rack.specs.Rules.{all_in_range}
use Rattle.rack_states.specs.States.{tags_at, all_decode}

and_more : (a b c : Bool) → ((a && b) && c) ≡ (a && (b && c))
and_more true b c = refl
and_more false b c = refl

and_none : (a : Bool) → (a && true) ≡ a
and_none true = refl
and_none false = refl

-- ---- whether all decode
one_decodes : (k : ℕ) (s : List ℕ) (at : ℕ) → all_decode (suc k) (drop at s) ≡ (decodes (take state_bytes (drop at s)) && all_decode k (drop (at + state_bytes) s))
unfolding all_decode
one_decodes k s at = ap (λ (l : List ℕ). decodes (take state_bytes (drop at s)) && all_decode k l) (drop-drop state_bytes at s)

pub decodes_more : (s : List ℕ) (all one : Bool) (i n at e : ℕ) → i < n → e ≡ state_bytes → one ≡ decodes (take e (drop at s))
    → (all && all_decode (n - i) (drop at s)) ≡ all_decode n s → ((all && one) && all_decode (n - (i + 1)) (drop (at + state_bytes) s)) ≡ all_decode n s
decodes_more s all one i n at e h size f inv =
    let left : n - i ≡ suc (n - (i + 1)) = omega arith in
    and_more all one (all_decode (n - (i + 1)) (drop (at + state_bytes) s))
    ∙ ap (λ (b : Bool). all && (b && all_decode (n - (i + 1)) (drop (at + state_bytes) s))) (f ∙ ap (λ (k : ℕ). decodes (take k (drop at s))) size)
    ∙ ap (λ (b : Bool). all && b) (sym (ap (λ (k : ℕ). all_decode k (drop at s)) left ∙ one_decodes (n - (i + 1)) s at))
    ∙ inv

pub all_done : (all : Bool) (i n at : ℕ) (s : List ℕ) → i ≡ n → (all && all_decode (n - i) (drop at s)) ≡ all_decode n s → all ≡ all_decode n s
unfolding all_decode
all_done all i n at s h inv =
    let none : n - i ≡ 0 = omega arith in
    sym (and_none all) ∙ ap (λ (k : ℕ). all && all_decode k (drop at s)) (sym none) ∙ inv

-- ---- whether all are within the ranges
abbrev in_range_from : ℕ → List ℕ → List ℕ → Bool
in_range_from n s m = all_in_range (devices_of (tags_at n s) m)

one_in_range : (k : ℕ) (s m : List ℕ) (at from : ℕ)
    → in_range_from (suc k) (drop at s) (drop from m)
    ≡ (tag_in_range (tag_of (take state_bytes (drop at s))) (take memory_bytes (drop from m)) && in_range_from k (drop (at + state_bytes) s) (drop (from + memory_bytes) m))
unfolding tags_at devices_of all_in_range memory_size
one_in_range k s m at from =
    ap (λ (l : List ℕ). tag_in_range (tag_of (take state_bytes (drop at s))) (take memory_bytes (drop from m)) && in_range_from k l (drop memory_bytes (drop from m))) (drop-drop state_bytes at s)
    ∙ ap (λ (l : List ℕ). tag_in_range (tag_of (take state_bytes (drop at s))) (take memory_bytes (drop from m)) && in_range_from k (drop (at + state_bytes) s) l) (drop-drop memory_bytes from m)

pub ranges_more : (s m : List ℕ) (all one : Bool) (i n at from e d : ℕ) (t : Tag) → i < n → e ≡ state_bytes → d ≡ memory_bytes
    → t ≡ tag_of (take e (drop at s)) → one ≡ tag_in_range t (take d (drop from m))
    → (all && in_range_from (n - i) (drop at s) (drop from m)) ≡ in_range_from n s m
    → ((all && one) && in_range_from (n - (i + 1)) (drop (at + state_bytes) s) (drop (from + memory_bytes) m)) ≡ in_range_from n s m
ranges_more s m all one i n at from e d t h size memory g f inv =
    let left : n - i ≡ suc (n - (i + 1)) = omega arith in
    let rest = in_range_from (n - (i + 1)) (drop (at + state_bytes) s) (drop (from + memory_bytes) m) in
    let own : t ≡ tag_of (take state_bytes (drop at s)) = g ∙ ap (λ (k : ℕ). tag_of (take k (drop at s))) size in
    and_more all one rest
    ∙ ap (λ (b : Bool). all && (b && rest)) (f ∙ ap (λ (k : ℕ). tag_in_range t (take k (drop from m))) memory ∙ ap (λ (x : Tag). tag_in_range x (take memory_bytes (drop from m))) own)
    ∙ ap (λ (b : Bool). all && b) (sym (ap (λ (k : ℕ). in_range_from k (drop at s) (drop from m)) left ∙ one_in_range (n - (i + 1)) s m at from))
    ∙ inv

pub all_ranged : (all : Bool) (i n at from : ℕ) (s m : List ℕ) → i ≡ n → (all && in_range_from (n - i) (drop at s) (drop from m)) ≡ in_range_from n s m → all ≡ in_range_from n s m
unfolding tags_at devices_of all_in_range
all_ranged all i n at from s m h inv =
    let none : n - i ≡ 0 = omega arith in
    sym (and_none all) ∙ ap (λ (k : ℕ). all && in_range_from k (drop at s) (drop from m)) (sym none) ∙ inv
