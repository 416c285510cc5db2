-- The table has the names: one computed test, and the law that gives each entry. Assumes nothing.
use mathlib.Core.Path.{◌≡◌, refl, ap, ap₂, ◌∙◌}
use mathlib.Core.Bool.{Bool, true, false, ◌&&◌}
use mathlib.Core.List.{List, [], ◌∷◌, ◌++◌}
use Prim.Native.Nat.{ℕ, zero, suc, ◌+◌, ◌≤◌, ◌<◌}
use Prim.Native.String.{String}
use native.Mathlib.Omega.{arith}
use lib.Dec.{eqb}
use borrow.Author.Tests.{eqb-true, eqb-false}
use lib.ListN.{length, get_or, get_or-eq_default}
use Rattle.parts.specs.Bytes.{bytes_at}
use Rattle.parts.proofs.Bools.{and_left, and_right}
use Rattle.text.specs.Place.{stored, last_place, text_at}
use Rattle.rule_names.specs.Rules.{silence_words, error_words, rule_words}
use Rattle.rule_names.specs.Names.{all_rules, names, string_bytes, name_at}

-- the names end to end; where each starts, from a place on; how long each is
unfoldable pub end_to_end : List String → List ℕ
end_to_end [] = []
end_to_end (name ∷ rest) = string_bytes name ++ end_to_end rest

unfoldable pub starts_from : ℕ → List String → List ℕ
starts_from n [] = []
starts_from n (name ∷ rest) = n ∷ starts_from (n + length (string_bytes name)) rest

unfoldable pub lengths_of : List String → List ℕ
lengths_of [] = []
lengths_of (name ∷ rest) = length (string_bytes name) ∷ lengths_of rest

-- the piece of a number
abbrev pub piece_at : ℕ → List ℕ
piece_at n = bytes_at (end_to_end names) (get_or (starts_from 0 names) n 0) (get_or (lengths_of names) n 0)

same : List ℕ → List ℕ → Bool
same [] [] = true
same [] (y ∷ ys) = false
same (x ∷ xs) [] = false
same (x ∷ xs) (y ∷ ys) = eqb x y && same xs ys

same_is : (xs ys : List ℕ) → same xs ys ≡ true → xs ≡ ys
unfolding same
same_is [] [] h = refl
same_is [] (y ∷ ys) h = let z : ◌≡◌ {A = ℕ} 0 1 = cc in absurd (omega arith)
same_is (x ∷ xs) [] h = let z : ◌≡◌ {A = ℕ} 0 1 = cc in absurd (omega arith)
same_is (x ∷ xs) (y ∷ ys) h =
    ap₂ ◌∷◌ (eqb-true x y (and_left (eqb x y) (same xs ys) h)) (same_is xs ys (and_right (eqb x y) (same xs ys) h))

-- a test passes at each number below n
unfoldable pub below : (ℕ → Bool) → ℕ → Bool
below f zero = true
below f (suc n) = f n && below f n

below_more : (f : ℕ → Bool) (n k : ℕ) → below f (suc n) ≡ true → k < suc n → (below f n ≡ true → k < n → f k ≡ true) → (b : Bool) → eqb k n ≡ b → f k ≡ true
unfolding below
below_more f n k h l ih true e = ap f (eqb-true k n e) ∙ and_left (f n) (below f n) h
below_more f n k h l ih false e =
    let d = eqb-false k n e in
    ih (and_right (f n) (below f n) h) (omega arith)

pub below_at : (f : ℕ → Bool) (n k : ℕ) → below f n ≡ true → k < n → f k ≡ true
below_at f zero k h l = absurd (omega arith)
below_at f (suc n) k h l = below_more f n k h l (below_at f n k) (eqb k n) refl

passes : ℕ → Bool
passes n = same (piece_at n) (name_at n)

abbrev pub count : ℕ
count = 55

-- the computed test
all_pass : below passes count ≡ true
unfolding below passes same end_to_end starts_from lengths_of names all_rules rule_words silence_words error_words name_at string_bytes bytes_at
all_pass = refl

pub piece_is : (n : ℕ) → n < count → piece_at n ≡ name_at n
unfolding passes
piece_is n h = same_is (piece_at n) (name_at n) (below_at passes count n all_pass h)

-- past the last there is no name
pub past_last : (n : ℕ) → count ≤ n → name_at n ≡ []
unfolding name_at names all_rules string_bytes
past_last n h = ap string_bytes (get_or-eq_default names "" {n = n} h)

-- nothing stored at a place
pub nothing_stored : (o : List ℕ) (at : ℕ) → at ≤ last_place → stored at o ≡ text_at o at []
nothing_stored o at h = ap (λ (n : ℕ). stored n o) (omega (arith, h))
