-- The rest of a line, one byte on, and at its end. Assumes nothing.
use mathlib.Core.Path.{◌≡◌, refl, sym, ap, ◌∙◌}
use mathlib.Core.Bool.{Bool, true, false, cond}
use mathlib.Core.List.{List, [], ◌∷◌}
use Prim.Native.Nat.{ℕ, suc, ◌-◌, ◌≤◌, min}
use native.Mathlib.Omega.{arith}
use lib.Dec.{eqb, leb, ltb}
use lib.ListN.{length, take, drop, length-drop, drop_of_length-le}
use lib.Seq.{take_all}
use borrow.Author.Tests.{leb-true, leb-false, ltb-false}
use Rattle.std.proofs.Common.{Option, Some, None}
use Rattle.std.specs.Option.{unwrap_or}
use Rattle.std.specs.List.{position_or_len}
use Rattle.parts.specs.Pick.{pick}
use Rattle.lines.specs.Line.{line_length}

-- ---- by the first byte of a list
pub length_lf : (b : ℕ) (s : List ℕ) → eqb b 10 ≡ true → line_length (b ∷ s) ≡ 0
unfolding line_length pick
length_lf b s e = rw e

pub length_byte_lem : (b : ℕ) (s : List ℕ) → eqb b 10 ≡ false → line_length (b ∷ s) ≡ suc (line_length s)
unfolding line_length pick
length_byte_lem b s e = rw e

line_le_at : (b : ℕ) (s : List ℕ) (x : Bool) → eqb b 10 ≡ x → line_length s ≤ length s → line_length (b ∷ s) ≤ suc (length s)
line_le_at b s true e ih = omega (arith, length_lf b s e)
line_le_at b s false e ih = omega (arith, length_byte_lem b s e)

pub line_le : (s : List ℕ) → line_length s ≤ length s
unfolding line_length
line_le [] = omega arith
line_le (b ∷ s) = line_le_at b s (eqb b 10) refl (line_le s)

-- ---- the place of the first line feed
abbrev pub is_lf : ℕ → Bool
is_lf b = eqb b 10

found_at : (b : ℕ) (s : List ℕ) (x : Bool) → eqb b 10 ≡ x → position_or_len is_lf s ≡ line_length s → position_or_len is_lf (b ∷ s) ≡ line_length (b ∷ s)
found_at b s true e ih = rw e (sym (length_lf b s e))
found_at b s false e ih = rw e (omega (arith, ih, length_byte_lem b s e))

found : (s : List ℕ) → position_or_len is_lf s ≡ line_length s
unfolding line_length
found [] = refl
found (b ∷ s) = found_at b s (eqb b 10) refl (found s)

or_all : (n k : ℕ) → k ≤ n → (b : Bool) → ltb k n ≡ b → unwrap_or (cond b (Some k) None) n ≡ k
or_all n k h true e = refl
or_all n k h false e = omega (arith, ltb-false k n e)

pub line_found : (s rest : List ℕ) (from k : ℕ) (r : Option ℕ) → k ≡ min from (length s) → rest ≡ take (length s - k) (drop k s)
    → r ≡ cond (ltb (position_or_len is_lf rest) (length rest)) (Some (position_or_len is_lf rest)) None
    → unwrap_or r (length rest) ≡ line_length (drop from s)
line_found s rest from k r e h q =
    let p = found rest in
    let l = line_le rest in
    let whole : rest ≡ drop from s = h ∙ take_all (length s - k) (drop k s) (omega (arith, length-drop k s)) ∙ ap (λ (i : ℕ). drop i s) e ∙ clipped from s (leb from (length s)) refl in
    ap (λ (o : Option ℕ). unwrap_or o (length rest)) q
    ∙ or_all (length rest) (position_or_len is_lf rest) (omega (arith, p, l)) (ltb (position_or_len is_lf rest) (length rest)) refl
    ∙ p ∙ ap line_length whole
  where
    clipped : (from : ℕ) (s : List ℕ) (b : Bool) → leb from (length s) ≡ b → drop (min from (length s)) s ≡ drop from s
    clipped from s true e =
        let l = leb-true from (length s) e in
        let k : min from (length s) ≡ from = omega arith in
        ap (λ (i : ℕ). drop i s) k
    clipped from s false e =
        let l = leb-false from (length s) e in
        drop_of_length-le s {i = min from (length s)} (omega arith) ∙ sym (drop_of_length-le s {i = from} (omega arith))
