-- A run stored in the part of a list from a place on. Assumes nothing.
use mathlib.Core.Path.{◌≡◌, refl, sym, ap, ◌∙◌}
use mathlib.Core.List.{List, [], ◌∷◌, ◌++◌, append-nil}
use Prim.Native.Nat.{ℕ, suc, ◌+◌, ◌-◌, ◌≤◌}
use native.Mathlib.Omega.{arith}
use native.Mathlib.Nat.{add-zero}
use lib.ListN.{length, take, drop, set, length-drop, take-append-drop}
use lib.Seq.{sets, set_out, take-set-le, drop-set-add, take_all, drop-length}
use borrow.Rule.Slice.PartMut.{put_mid, Post-is}

-- the bytes before the run stay
pub take_sets : (xs l : List ℕ) (n i : ℕ) → n ≤ i → take n (sets l i xs) ≡ take n l
take_sets [] l n i h = refl
take_sets (x ∷ xs) l n i h = take_sets xs (set l i x) n (suc i) (omega arith) ∙ take-set-le n l i x h

-- what lies from a place on, the run stored there
pub drop_sets : (xs l : List ℕ) (n i : ℕ) → drop n (sets l (n + i) xs) ≡ sets (drop n l) i xs
drop_sets [] l n i = refl
drop_sets (x ∷ xs) l n i =
    ap (λ (k : ℕ). drop n (sets (set l (n + i) x) k xs)) (omega arith)
    ∙ drop_sets xs (set l (n + i) x) n (suc i)
    ∙ ap (λ (z : List ℕ). sets z (suc i) xs) (drop-set-add n l i x)

-- a run past the end changes nothing
pub sets_past : (xs l : List ℕ) (i : ℕ) → length l ≤ i → sets l i xs ≡ l
sets_past [] l i h = refl
sets_past (x ∷ xs) l i h =
    ap (λ (z : List ℕ). sets z (suc i) xs) (set_out l i x h) ∙ sets_past xs l (suc i) (omega arith)

-- a part to the end is the rest
pub tail_is : (n : ℕ) (l : List ℕ) → take (length l - n) (drop n l) ≡ drop n l
tail_is n l = take_all (length l - n) (drop n l) (omega (arith, length-drop n l))

pub put_tail : (n : ℕ) (l ys : List ℕ) → n ≤ length l → put_mid n (length l - n) l ys ≡ take n l ++ ys
put_tail n l ys h =
    ap (λ (z : List ℕ). take n l ++ (ys ++ z)) (Post-is n (length l) l h ∙ drop-length l)
    ∙ ap (λ (z : List ℕ). take n l ++ z) (append-nil ys)

-- a run stored at the start of the part from n on is stored at n of the whole
pub part_sets : (xs l : List ℕ) (n : ℕ) → n ≤ length l
    → put_mid n (length l - n) l (sets (take (length l - n) (drop n l)) 0 xs) ≡ sets l n xs
part_sets xs l n h =
    put_tail n l (sets (take (length l - n) (drop n l)) 0 xs) h
    ∙ ap (λ (z : List ℕ). take n l ++ sets z 0 xs) (tail_is n l)
    ∙ ap (λ (z : List ℕ). take n l ++ z) (sym (drop_sets xs l n 0) ∙ ap (λ (k : ℕ). drop n (sets l k xs)) (add-zero n))
    ∙ ap (λ (z : List ℕ). z ++ drop n (sets l n xs)) (sym (take_sets xs l n n (omega arith)))
    ∙ take-append-drop n (sets l n xs)
