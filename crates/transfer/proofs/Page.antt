-- The page after stores onto it. Assumes nothing.
use mathlib.Core.Path.{◌≡◌, refl, sym, ap, ◌∙◌}
use mathlib.Core.List.{List, [], ◌∷◌, ◌++◌, append_assoc}
use Prim.Native.Nat.{ℕ, zero, suc, ◌+◌, ◌≤◌, ◌<◌}
use native.Mathlib.Omega.{arith}
use lib.ListN.{length, take, get_or, set, get_or-append}
use lib.Seq.{sets, sets-eq, take-suc, take-length, length-take-le, get_or-set_same, get_or-append-add}
use Rattle.parts.specs.Bytes.{bytes_at}
use Rattle.parts.proofs.Lists.{bytes_at_after}
use Rattle.tag.specs.Layout.{page}

-- one byte more
pub page_set : (m : List ℕ) (k x : ℕ) → length m ≡ 1024 → k < 256 → page (suc k) (set m (768 + k) x) ≡ page k m ++ x ∷ []
unfolding bytes_at
page_set m k x h r = rw (bytes_at_after m 768 k (768 + k) x (omega arith), get_or-set_same m (768 + k) x 0 (omega arith))

bytes_in : (p ys q : List ℕ) (k : ℕ) → length p ≡ 768 → k ≤ length ys → bytes_at (p ++ (ys ++ q)) 768 k ≡ take k ys
unfolding bytes_at
bytes_in p ys q zero h l = refl
bytes_in p ys q (suc k) h l =
    let e : get_or (p ++ (ys ++ q)) (768 + k) 0 ≡ get_or ys k 0 =
    ap (λ (n : ℕ). get_or (p ++ (ys ++ q)) (n + k) 0) (sym h) ∙ get_or-append-add p (ys ++ q) k 0 ∙ get_or-append ys q 0 k (omega arith) in
    rw (bytes_in p ys q k h (omega arith), e) (sym (take-suc ys k 0 (omega arith)))

-- a run stored from the page's first place on
pub page_sets : (m ys : List ℕ) (j : ℕ) → length m ≡ 1024 → length ys ≡ j → j ≤ 256 → page j (sets m 768 ys) ≡ ys
page_sets m ys j h l r =
    let p : length (take 768 m) ≡ 768 = length-take-le 768 m (omega arith) in
    rw (sets-eq ys m 768 (omega arith), append_assoc (take 768 m) ys)
    (bytes_in (take 768 m) ys _ j p (omega arith) ∙ ap (λ (n : ℕ). take n ys) (sym l) ∙ take-length ys)
