-- Bytes stored over zeros, as a UID's are. Assumes nothing.
use mathlib.Core.Path.{◌≡◌, refl, sym, ap, ◌∙◌}
use mathlib.Core.List.{List, [], ◌∷◌, ◌++◌}
use Prim.Native.Nat.{ℕ, zero, suc, ◌+◌}
use native.Mathlib.Omega.{arith}
use native.Mathlib.Numerals.{add-one}
use lib.ListN.{get_or, set, replicate, replicate-append-replicate}
use lib.Seq.{sets}
use Rattle.parts.specs.Bytes.{bytes_at}

-- ---- a run stored
sets_none : (s : List ℕ) (at : ℕ) → sets [] at s ≡ []
sets_none [] at = refl
sets_none (x ∷ s) at = sets_none s (suc at)

-- behind the first byte
sets_behind : (s l : List ℕ) (x at : ℕ) → sets (x ∷ l) (suc at) s ≡ x ∷ sets l at s
sets_behind [] l x at = refl
sets_behind (y ∷ s) l x at = sets_behind s (set l at y) x (suc at)

-- ---- a run read
bytes_behind : (s : List ℕ) (x at n : ℕ) → bytes_at (x ∷ s) (suc at) n ≡ bytes_at s at n
unfolding bytes_at
bytes_behind s x at zero = refl
bytes_behind s x at (suc n) =
    let e : suc at + n ≡ suc (at + n) = omega arith in
    rw (bytes_behind s x at n, e)

bytes_first : (s : List ℕ) (n : ℕ) → bytes_at s 0 (suc n) ≡ get_or s 0 0 ∷ bytes_at s 1 n
unfolding bytes_at
bytes_first s zero = refl
bytes_first s (suc n) =
    let e : 0 + suc n ≡ 1 + n = omega arith in
    rw e (ap (λ (l : List ℕ). l ++ get_or s (1 + n) 0 ∷ []) (bytes_first s n))

bytes_none : (at n : ℕ) → bytes_at [] at n ≡ replicate n 0
unfolding bytes_at
bytes_none at zero = refl
bytes_none at (suc n) =
    rw (bytes_none at n) (replicate-append-replicate n 1 0 ∙ ap (λ (k : ℕ). replicate k 0) (add-one n))

-- stored over zeros, the first n bytes of a run stand: those that it has not got are 0
pub over_zeros : (n : ℕ) (s : List ℕ) → sets (replicate n 0) 0 s ≡ bytes_at s 0 n
unfolding bytes_at
over_zeros zero s = sets_none s 0
over_zeros (suc n) [] = sym (bytes_none 0 (suc n))
over_zeros (suc n) (x ∷ s) =
    sets_behind s (replicate n 0) x 0
    ∙ ap (λ (l : List ℕ). x ∷ l) (over_zeros n s ∙ sym (bytes_behind s x 0 n))
    ∙ sym (bytes_first (x ∷ s) n)
