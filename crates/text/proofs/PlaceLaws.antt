-- Texts stored one behind another. Assumes nothing.
use mathlib.Core.Path.{◌≡◌, refl, sym, ap, ◌∙◌}
use mathlib.Core.Bool.{Bool, true, false}
use mathlib.Core.List.{List, [], ◌∷◌, ◌++◌}
use Prim.Native.Nat.{ℕ, suc, ◌+◌, ◌≤◌, min}
use native.Mathlib.Omega.{arith}
use lib.Dec.{leb}
use borrow.Author.Tests.{leb-true, leb-false}
use lib.ListN.{length, set, length-append, length-set}
use lib.Seq.{sets, length-sets, set_out}
use Rattle.parts.proofs.Lists.{sets_append}
use Rattle.text.specs.Place.{Stored, stored, last_place, text_at}

-- a text past the end is dropped
sets_out : (t o : List ℕ) (at : ℕ) → length o ≤ at → sets o at t ≡ o
sets_out [] o at h = refl
sets_out (x ∷ t) o at h = sets_out t (set o at x) (suc at) (omega (arith, length-set o at x)) ∙ set_out o at x h

module _ (o t u : List ℕ) (at : ℕ) (h : length o ≤ last_place) where
  next_then : min (min (at + length t) last_place + length u) last_place ≡ min (at + length (t ++ u)) last_place
  next_then = simp length-append (omega arith)

  buffer_then : (b : Bool) → leb (at + length t) last_place ≡ b → sets (sets o at t) (min (at + length t) last_place) u ≡ sets o at (t ++ u)
  buffer_then true q =
      let l = leb-true (at + length t) last_place q in
      let e : min (at + length t) last_place ≡ at + length t = omega arith in
      ap (λ (n : ℕ). sets (sets o at t) n u) e ∙ sym (sets_append t u o at)
  buffer_then false q =
      let l = leb-false (at + length t) last_place q in
      let p = sets o at t in
      let k = length-sets o at t in
      sets_out u p (min (at + length t) last_place) (omega arith)
      ∙ sym (sets_out u p (at + length t) (omega arith))
      ∙ sym (sets_append t u o at)

  text_then : text_at (sets o at t) (min (at + length t) last_place) u ≡ text_at o at (t ++ u)
  text_then =
      ap (λ (n : ℕ). stored n (sets (sets o at t) (min (at + length t) last_place) u)) next_then
      ∙ ap (λ (b : List ℕ). stored (min (at + length (t ++ u)) last_place) b) (buffer_then (leb (at + length t) last_place) refl)

-- the text u behind the text t
pub behind : (o b t u : List ℕ) (at n : ℕ) → length o ≤ last_place → stored n b ≡ text_at o at t → text_at b n u ≡ text_at o at (t ++ u)
behind o b t u at n h e = ap (λ (s : Stored). text_at s.buffer s.next u) e ∙ text_then o t u at h

-- no text changes the buffer's length
pub same_room : (o b t : List ℕ) (at n : ℕ) → stored n b ≡ text_at o at t → length b ≡ length o
same_room o b t at n e = ap (λ (s : Stored). length s.buffer) e ∙ length-sets o at t
