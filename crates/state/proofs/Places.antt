-- Laws of parts that stand one after the other. Assumes nothing.
use mathlib.Core.Path.{◌≡◌, refl, sym, ap, ◌∙◌}
use mathlib.Core.List.{List, [], ◌∷◌, ◌++◌, append-nil, append_assoc}
use Prim.Native.Nat.{ℕ, zero, suc, ◌+◌, ◌≤◌}
use native.Mathlib.Omega.{arith}
use native.Mathlib.Nat.{add-zero}
use lib.ListN.{length, get_or, take, length-append}
use lib.Seq.{sets, get_or-append-add, take_at, take-length}
use Rattle.parts.specs.Bytes.{bytes_at}
pub use Rattle.parts.proofs.Lists.{bytes_at_whole}
use Rattle.parts.proofs.Lists.{bytes_at_part, bytes_at_get_d, sets_append}

-- lists of the same first and the same rest
pub same_head : (x y : ℕ) (p q : List ℕ) → x ≡ y → p ≡ q → x ∷ p ≡ y ∷ q
same_head x y p q e f = rw (e, f)

-- a part after p is read as without p
pub bytes_at_skip : (p q : List ℕ) (k at n : ℕ) → length p ≡ k → bytes_at (p ++ q) (k + at) n ≡ bytes_at q at n
unfolding bytes_at
bytes_at_skip p q k at zero e = refl
bytes_at_skip p q k at (suc n) e =
    let i : k + at + n ≡ length p + (at + n) = omega arith in
    rw (bytes_at_skip p q k at n e, i, get_or-append-add p q (at + n) 0)

-- the first part
pub bytes_at_head : (q r : List ℕ) (n : ℕ) → length q ≡ n → bytes_at (q ++ r) 0 n ≡ q
bytes_at_head q r n e = bytes_at_part (q ++ r) 0 n (omega (arith, length-append q r)) ∙ take_at q r n e

-- two parts read one after the other
pub bytes_at_join : (s : List ℕ) (at n m : ℕ) → bytes_at s at n ++ bytes_at s (at + n) m ≡ bytes_at s at (n + m)
unfolding bytes_at
bytes_at_join s at n zero = append-nil (bytes_at s at n) ∙ ap (bytes_at s at) (sym (add-zero n))
bytes_at_join s at n (suc m) =
    let i : at + n + m ≡ at + (n + m) = omega arith in
    let e : suc (n + m) ≡ n + suc m = omega arith in
    sym (append_assoc (bytes_at s at n) (bytes_at s (at + n) m) (get_or s (at + n + m) 0 ∷ []))
    ∙ rw (bytes_at_join s at n m, i) (ap (bytes_at s at) e)

-- .. the second at a place that is where the first ends
pub bytes_at_joined : (s : List ℕ) (at from n m : ℕ) → from ≡ at + n → bytes_at s at n ++ bytes_at s from m ≡ bytes_at s at (n + m)
bytes_at_joined s at from n m e = ap (λ (i : ℕ). bytes_at s at n ++ bytes_at s i m) e ∙ bytes_at_join s at n m

-- a part of a part
pub bytes_at_within : (s : List ℕ) (at n i m : ℕ) → i + m ≤ n → bytes_at (bytes_at s at n) i m ≡ bytes_at s (at + i) m
unfolding bytes_at
bytes_at_within s at n i zero h = refl
bytes_at_within s at n i (suc m) h =
    let e : at + (i + m) ≡ at + i + m = omega arith in
    rw (bytes_at_within s at n i m (omega arith), bytes_at_get_d s at n (i + m) 0 (omega arith), e)

-- two parts stored one after the other
pub sets_then : (p q o : List ℕ) (at n : ℕ) → length p ≡ n → sets (sets o at p) (at + n) q ≡ sets o at (p ++ q)
sets_then p q o at n e = ap (λ (k : ℕ). sets (sets o at p) (at + k) q) (sym e) ∙ sym (sets_append p q o at)

-- .. the second at a place that is where the first ends
pub sets_next : (p q o : List ℕ) (at next n : ℕ) → length p ≡ n → next ≡ at + n → sets (sets o at p) next q ≡ sets o at (p ++ q)
sets_next p q o at next n e i = ap (λ (k : ℕ). sets (sets o at p) k q) i ∙ sets_then p q o at n e
