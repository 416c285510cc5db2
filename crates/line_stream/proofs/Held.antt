-- Laws of the end of the input, and of a line with what was kept of it. Assumes nothing.
use mathlib.Core.Path.{◌≡◌, refl, sym, ap}
use mathlib.Core.Bool.{Bool, true, false}
use mathlib.Core.List.{List, [], ◌∷◌, ◌++◌}
use Prim.Native.Nat.{ℕ}
use lib.Dec.{eqb}
use borrow.Author.Tests.{eq-eqb, ne_eqb, eqb-true}
use lib.ListN.{length, take}
use Rattle.parts.specs.Pick.{pick}
use Rattle.parts.proofs.Picks.{pick_true, pick_false}
use Rattle.unfinished.specs.Kept.{keep}
use Rattle.line_stream.specs.Step.{LineProgram, piece_result, piece_by, end_of}
use Rattle.line_stream.specs.Claim.{TellsByKept}

-- ---- the end of the input
pub end_none : {S : Type 0} (program : LineProgram S) (room : ℕ) (c : S) (h : List ℕ) → length h ≡ 0 → end_of program room c h ≡ piece_result c [] 0 []
unfolding end_of
end_none program room c h e = sym (pick_true _ _ _ (eqb (length h) 0) (eq-eqb (length h) 0 e) refl)

pub end_some : {S : Type 0} (program : LineProgram S) (room : ℕ) (c : S) (h : List ℕ) → (length h ≡ 0 → ⊥) → end_of program room c h ≡ piece_by program room c h (10 ∷ [])
unfolding end_of
end_some program room c h e = sym (pick_false _ _ _ (eqb (length h) 0) (ne_eqb (length h) 0 e) refl)

-- ---- the line: the bytes s, or what was kept with them
whole_line_at : {S : Type 0} (program : LineProgram S) → TellsByKept program → (c : S) (k s : List ℕ) (have : ℕ) (x : Bool) → eqb have 0 ≡ x
    → program c (pick x s (keep (take have k ++ s))) ≡ program c (take have k ++ s)
unfolding pick
whole_line_at program kept c k s have true e = ap (λ (n : ℕ). program c (take n k ++ s)) (sym (eqb-true have 0 e))
whole_line_at program kept c k s have false e = kept c (take have k ++ s)

pub whole_line : {S : Type 0} (program : LineProgram S) → TellsByKept program → (c : S) (k s : List ℕ) (have : ℕ) → program c (pick (eqb have 0) s (keep (take have k ++ s))) ≡ program c (take have k ++ s)
whole_line program kept c k s have = whole_line_at program kept c k s have (eqb have 0) refl
