-- Lists of bytes, place by place: every number read is below 256, past the end too. Assumes nothing.
use mathlib.Core.Path.{◌≡◌, refl}
use mathlib.Core.Bool.{true}
use mathlib.Core.List.{List, [], ◌∷◌, ◌++◌}
use Prim.Native.Nat.{ℕ, zero, suc, ◌+◌, ◌<◌}
use native.Mathlib.Omega.{arith}
use lib.Dec.{ltb}
use lib.ListN.{get_or, set}
use lib.Seq.{sets}
use borrow.Author.Tests.{lt-ltb, ltb-true}
use Rattle.parts.specs.Bytes.{bytes_at, are_bytes}
use Rattle.parts.proofs.Bools.{and_left, and_right, and_both}

abbrev pub Below : List ℕ → Type 0
Below s = (i : ℕ) → get_or s i 0 < 256

pub bytes_below : (s : List ℕ) → are_bytes s ≡ true → Below s
unfolding are_bytes
bytes_below [] h i = omega arith
bytes_below (x ∷ s) h zero = ltb-true x 256 (and_left (ltb x 256) (are_bytes s) h)
bytes_below (x ∷ s) h (suc i) = bytes_below s (and_right (ltb x 256) (are_bytes s) h) i

pub are_below : (s : List ℕ) → Below s → are_bytes s ≡ true
unfolding are_bytes
are_below [] h = refl
are_below (x ∷ s) h = and_both (ltb x 256) (are_bytes s) (lt-ltb x 256 (h zero)) (are_below s (λ i. h (suc i)))

-- ---- lists joined, and runs read
pub are_append : (p q : List ℕ) → are_bytes p ≡ true → are_bytes q ≡ true → are_bytes (p ++ q) ≡ true
unfolding are_bytes
are_append [] q h k = k
are_append (x ∷ p) q h k =
    and_both (ltb x 256) (are_bytes (p ++ q)) (and_left (ltb x 256) (are_bytes p) h)
    (are_append p q (and_right (ltb x 256) (are_bytes p) h) k)

pub are_run : (s : List ℕ) (at n : ℕ) → Below s → are_bytes (bytes_at s at n) ≡ true
unfolding bytes_at are_bytes
are_run s at zero h = refl
are_run s at (suc n) h =
    are_append (bytes_at s at n) (get_or s (at + n) 0 ∷ []) (are_run s at n h) (rw (lt-ltb (get_or s (at + n) 0) 256 (h (at + n))))

pub run_below : (s : List ℕ) (at n : ℕ) → Below s → Below (bytes_at s at n)
run_below s at n h = bytes_below (bytes_at s at n) (are_run s at n h)

-- ---- stores
pub set_below : (l : List ℕ) (i x : ℕ) → x < 256 → Below l → Below (set l i x)
set_below [] i x p h j = h j
set_below (y ∷ l) zero x p h zero = p
set_below (y ∷ l) zero x p h (suc j) = h (suc j)
set_below (y ∷ l) (suc i) x p h zero = h zero
set_below (y ∷ l) (suc i) x p h (suc j) = set_below l i x p (λ n. h (suc n)) j

pub sets_below : (xs l : List ℕ) (at : ℕ) → Below xs → Below l → Below (sets l at xs)
sets_below [] l at p h = h
sets_below (x ∷ xs) l at p h = sets_below xs (set l at x) (suc at) (λ n. p (suc n)) (set_below l at x (p zero) h)
