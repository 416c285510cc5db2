-- Laws of runs of bytes. Assumes nothing.
use mathlib.Core.Path.{◌≡◌, refl, sym, ap, ◌∙◌}
use mathlib.Core.Bool.{Bool, true, false}
use mathlib.Core.List.{List, [], ◌∷◌, ◌++◌, append-nil}
use Prim.Native.Nat.{ℕ, zero, suc, ◌+◌, ◌≤◌, ◌<◌}
use native.Mathlib.Omega.{arith}
use native.Mathlib.Nat.{add-zero}
use lib.Dec.{ltb}
use borrow.Author.Tests.{ltb-true, ltb-false}
use lib.ListN.{length, take, drop, get_or, set, length-append, length-set, length-drop, drop_of_length-le, get_or-append, get_or-eq_default}
use lib.Seq.{sets, sets-eq, take-suc, take-length, get_or-drop, get_or-set_other, get_or_at}
use Rattle.parts.specs.Bytes.{bytes_at, copied}

-- a run with one byte more
pub sets_snoc : (xs l : List ℕ) (at x : ℕ) → sets l at (xs ++ x ∷ []) ≡ set (sets l at xs) (at + length xs) x
sets_snoc [] l at x = ap (λ (n : ℕ). set l n x) (sym (add-zero at))
sets_snoc (y ∷ xs) l at x =
    sets_snoc xs (set l at y) (suc at) x ∙ ap (λ (n : ℕ). set (sets (set l at y) (suc at) xs) n x) (omega arith)

-- a run stored in two parts
pub sets_append : (p q o : List ℕ) (at : ℕ) → sets o at (p ++ q) ≡ sets (sets o at p) (at + length p) q
sets_append [] q o at = ap (λ (n : ℕ). sets o n q) (sym (add-zero at))
sets_append (x ∷ p) q o at =
    sets_append p q (set o at x) (suc at) ∙ ap (λ (n : ℕ). sets (sets (set o at x) (suc at) p) n q) (omega arith)

-- a byte past a run, and one before it, stays
pub get_d_sets_after : (xs l : List ℕ) (at j : ℕ) → at + length xs ≤ j → get_or (sets l at xs) j 0 ≡ get_or l j 0
get_d_sets_after [] l at j h = refl
get_d_sets_after (y ∷ xs) l at j h =
    get_d_sets_after xs (set l at y) (suc at) j (omega arith) ∙ get_or-set_other l at j y 0 (λ e. omega arith)

pub get_d_sets_before : (xs l : List ℕ) (at j : ℕ) → j < at → get_or (sets l at xs) j 0 ≡ get_or l j 0
get_d_sets_before [] l at j h = refl
get_d_sets_before (y ∷ xs) l at j h =
    get_d_sets_before xs (set l at y) (suc at) j (omega arith) ∙ get_or-set_other l at j y 0 (λ e. omega arith)

-- ---- runs read
pub length_bytes_at : (s : List ℕ) (at n : ℕ) → length (bytes_at s at n) ≡ n
unfolding bytes_at
length_bytes_at s at zero = refl
length_bytes_at s at (suc n) = omega (arith, length_bytes_at s at n, length-append (bytes_at s at n) (get_or s (at + n) 0 ∷ []))

-- a run that lies in the list is that part of it
pub bytes_at_part : (s : List ℕ) (at n : ℕ) → at + n ≤ length s → bytes_at s at n ≡ take n (drop at s)
unfolding bytes_at
bytes_at_part s at zero h = refl
bytes_at_part s at (suc n) h =
    rw (bytes_at_part s at n (omega arith), ← get_or-drop at s n 0)
    (sym (take-suc (drop at s) n 0 (omega (arith, length-drop at s))))

-- a list is all its bytes
pub bytes_at_whole : (s : List ℕ) (n : ℕ) → length s ≡ n → bytes_at s 0 n ≡ s
bytes_at_whole s n e = bytes_at_part s 0 n (omega arith) ∙ ap (λ (k : ℕ). take k s) (sym e) ∙ take-length s

-- a store past a run's bytes
pub bytes_at_after : (s : List ℕ) (at n i x : ℕ) → at + n ≤ i → bytes_at (set s i x) at n ≡ bytes_at s at n
unfolding bytes_at
bytes_at_after s at zero i x h = refl
bytes_at_after s at (suc n) i x h =
    rw (bytes_at_after s at n i x (omega arith), get_or-set_other s i (at + n) x 0 (λ e. omega arith))

-- the byte i of a run
bytes_at_get_d_more : (s : List ℕ) (at n i d : ℕ) → (i < n → get_or (bytes_at s at n) i d ≡ get_or s (at + i) 0) → i < suc n → (b : Bool)
    → ltb i n ≡ b → get_or (bytes_at s at n ++ get_or s (at + n) 0 ∷ []) i d ≡ get_or s (at + i) 0
bytes_at_get_d_more s at n i d ih h true q =
    get_or-append (bytes_at s at n) (get_or s (at + n) 0 ∷ []) d i (omega (arith, length_bytes_at s at n, ltb-true i n q))
    ∙ ih (ltb-true i n q)
bytes_at_get_d_more s at n i d ih h false q =
    let e : n ≡ i = omega (arith, ltb-false i n q) in
    get_or_at (bytes_at s at n) (get_or s (at + n) 0) [] d i (length_bytes_at s at n ∙ e)
    ∙ ap (λ (k : ℕ). get_or s (at + k) 0) e

pub bytes_at_get_d : (s : List ℕ) (at n i d : ℕ) → i < n → get_or (bytes_at s at n) i d ≡ get_or s (at + i) 0
unfolding bytes_at
bytes_at_get_d s at zero i d h = absurd (omega arith)
bytes_at_get_d s at (suc n) i d h = bytes_at_get_d_more s at n i d (bytes_at_get_d s at n i d) h (ltb i n) refl

pub bytes_at_past : (s : List ℕ) (at n i d : ℕ) → n ≤ i → get_or (bytes_at s at n) i d ≡ d
bytes_at_past s at n i d h = get_or-eq_default (bytes_at s at n) d (omega (arith, length_bytes_at s at n))

-- ---- runs copied
pub length_copied : (m : List ℕ) (to from n : ℕ) → length (copied m to from n) ≡ length m
unfolding copied
length_copied m to from zero = refl
length_copied m to from (suc n) = simp length-set (length_copied m to from n)

-- copied downward, each byte is read before it is overwritten: the run arrives as it was
pub copied_down : (m : List ℕ) (to from n : ℕ) → to ≤ from → copied m to from n ≡ sets m to (bytes_at m from n)
unfolding copied bytes_at
copied_down m to from zero h = refl
copied_down m to from (suc n) h =
    rw (copied_down m to from n h, get_d_sets_after (bytes_at m from n) m to (from + n) (omega (arith, length_bytes_at m from n)))
    (ap (λ (k : ℕ). set (sets m to (bytes_at m from n)) (to + k) (get_or m (from + n) 0)) (sym (length_bytes_at m from n))
    ∙ sym (sets_snoc (bytes_at m from n) m to (get_or m (from + n) 0)))

-- ---- all bytes of a list replaced
take_none : (m : List ℕ) → take 0 m ≡ []
take_none [] = refl
take_none (x ∷ m) = refl

pub replaced : (vs m : List ℕ) → length m ≡ length vs → sets m 0 vs ≡ vs
replaced vs m h =
    sets-eq vs m 0 (omega (arith, h))
    ∙ ap (λ (l : List ℕ). l ++ vs ++ drop (0 + length vs) m) (take_none m)
    ∙ ap (λ (l : List ℕ). vs ++ l) (drop_of_length-le m {i = 0 + length vs} (omega (arith, h)))
    ∙ append-nil vs
