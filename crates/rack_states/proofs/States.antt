-- The tags of states that stand end to end. Assumes nothing.
use mathlib.Core.Path.{◌≡◌, refl, sym, ap, ◌∙◌}
use mathlib.Core.List.{List, [], ◌∷◌, ◌++◌, append_assoc}
use Prim.Native.Nat.{ℕ, zero, suc, ◌+◌, ◌*◌, ◌-◌, ◌/◌, ◌≤◌}
use native.Mathlib.Omega.{arith}
use borrow.Author.Tests.{eq-eqb}
use lib.Dec.{eqb}
use lib.ListN.{length, get_or, take, drop, set, replicate, length-replicate, replicate-append-replicate, length-drop}
use lib.Seq.{drop-drop, take_at, set_at, take-take, take-append-add, take-append-le, length-take-le, get_or-take, take_all}
use Rattle.parts.specs.Pick.{pick}
use Rattle.parts.proofs.Picks.{pick_true}
use Rattle.tag.specs.declared.Tag.{Tag}
use Rattle.state.specs.Layout.{state_bytes, tag_of}
use Rattle.rack_states.specs.States.{tags_at, spare_tag, sixteen_at}

pub tags_number : (n : ℕ) (s : List ℕ) → length (tags_at n s) ≡ n
unfolding tags_at
tags_number zero s = refl
tags_number (suc n) s = ap suc (tags_number n _)

-- some, and those after them
pub tags_apart : (i k : ℕ) (s : List ℕ) → tags_at (i + k) s ≡ tags_at i s ++ tags_at k (drop (state_bytes * i) s)
unfolding tags_at
tags_apart zero k s =
    let e : 0 + k ≡ k = omega arith in
    ap (λ (n : ℕ). tags_at n s) e
tags_apart (suc i) k s =
    let e : suc i + k ≡ suc (i + k) = omega arith in
    let next : state_bytes + state_bytes * i ≡ state_bytes * suc i = omega arith in
    ap (λ (n : ℕ). tags_at n s) e
    ∙ ap (λ (l : List Tag). tag_of (take state_bytes s) ∷ l) (tags_apart i k (drop state_bytes s)
    ∙ ap (λ (l : List ℕ). tags_at i (drop state_bytes s) ++ tags_at k l) (drop-drop (state_bytes * i) state_bytes s ∙ ap (λ (n : ℕ). drop n s) next))

-- one more
pub tags_more : (i : ℕ) (s : List ℕ) → tags_at (suc i) s ≡ tags_at i s ++ tag_of (take state_bytes (drop (state_bytes * i) s)) ∷ []
unfolding tags_at
tags_more i s =
    let e : suc i ≡ i + 1 = omega arith in
    ap (λ (n : ℕ). tags_at n s) e ∙ tags_apart i 1 s

-- fewer
pub tags_fewer : (n k : ℕ) (s : List ℕ) → n ≤ k → take n (tags_at k s) ≡ tags_at n s
tags_fewer n k s h =
    let e : k ≡ n + (k - n) = omega arith in
    ap (λ (j : ℕ). take n (tags_at j s)) e
    ∙ ap (take n) (tags_apart n (k - n) s)
    ∙ take_at (tags_at n s) (tags_at (k - n) (drop (state_bytes * n) s)) n (tags_number n s)

-- ---- stored one by one among other tags
pub tag_stored : (p : List Tag) (x z : Tag) (i k : ℕ) → length p ≡ i → set (p ++ replicate (suc k) z) i x ≡ (p ++ x ∷ []) ++ replicate k z
tag_stored p x z i k h = set_at p z (replicate k z) x i h ∙ sym (append_assoc p (x ∷ []) (replicate k z))

-- ---- sixteen of them
take_same : (n k : ℕ) (z : Tag) → n ≤ k → take n (replicate k z) ≡ replicate n z
take_same n k z h =
    let e : n + (k - n) ≡ k = omega arith in
    ap (λ (i : ℕ). take n (replicate i z)) (sym e)
    ∙ ap (take n) (sym (replicate-append-replicate n (k - n) z))
    ∙ take_at (replicate n z) (replicate (k - n) z) n (length-replicate n z)

-- as many states as there are
pub sixteen_few : (i : ℕ) (s : List ℕ) (z : Tag) → i ≤ 16 → take 16 (tags_at i s ++ replicate 16 z) ≡ tags_at i s ++ replicate (16 - i) z
sixteen_few i s z h =
    let e : 16 ≡ length (tags_at i s) + (16 - i) = omega (arith, tags_number i s) in
    ap (λ (n : ℕ). take n (tags_at i s ++ replicate 16 z)) e
    ∙ take-append-add (tags_at i s) (replicate 16 z) (16 - i)
    ∙ ap (λ (l : List Tag). tags_at i s ++ l) (take_same (16 - i) 16 z (omega arith))

-- more
pub sixteen_many : (k : ℕ) (s : List ℕ) (l : List Tag) → 16 ≤ k → take 16 (tags_at k s ++ l) ≡ tags_at 16 s
sixteen_many k s l h = take-append-le 16 (tags_at k s) l (omega (arith, tags_number k s)) ∙ tags_fewer 16 k s h

-- the first ones are the tags of the states
pub sixteen_first : (n : ℕ) (s : List ℕ) → n ≤ 16 → length s ≡ n * state_bytes → take n (sixteen_at s) ≡ tags_at n s
sixteen_first n s few h =
    let e : length s / state_bytes ≡ n = omega arith in
    ap (λ (k : ℕ). take n (take 16 (tags_at k s ++ replicate 16 spare_tag))) e
    ∙ take-take n 16 (tags_at n s ++ replicate 16 spare_tag) few
    ∙ take_at (tags_at n s) (replicate 16 spare_tag) n (tags_number n s)

-- ---- the tag of a part that is a state
pub whole_state : (s : List ℕ) (at n : ℕ) (x : Tag) → n ≡ state_bytes → at + state_bytes ≤ length s
    → x ≡ pick (eqb (length (take n (drop at s))) state_bytes) (tag_of (take n (drop at s))) spare_tag → x ≡ tag_of (take n (drop at s))
whole_state s at n x e h f =
    f ∙ sym (pick_true _ _ _ _ (eq-eqb _ _ (length-take-le n (drop at s) (omega (arith, length-drop at s)) ∙ e)) refl)

-- ---- the tag of one state, as the first of sixteen
pub first_tag : (s : List ℕ) (at n : ℕ) (z x : Tag) → n ≡ state_bytes → at + state_bytes ≤ length s → x ≡ get_or (sixteen_at (take n (drop at s))) 0 z → x ≡ tag_of (take n (drop at s))
unfolding tags_at
first_tag s at n z x e h f =
    let p = take n (drop at s) in
    let long : length p ≡ 1 * state_bytes = length-take-le n (drop at s) (omega (arith, length-drop at s)) ∙ e in
    f
    ∙ sym (get_or-take 1 (sixteen_at p) 0 z (omega arith))
    ∙ ap (λ (l : List Tag). get_or l 0 z) (sixteen_first 1 p (omega arith) long)
    ∙ ap tag_of (take_all state_bytes p (omega (arith, long)))
