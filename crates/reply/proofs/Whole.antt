-- A reply that has room is there whole. Assumes nothing.
use mathlib.Core.Path.{◌≡◌, refl, sym, ap, ◌∙◌}
use mathlib.Core.List.{List, [], ◌∷◌, ◌++◌}
use Prim.Native.Nat.{ℕ, ◌+◌, ◌≤◌}
use native.Mathlib.Omega.{arith}
use lib.Dec.{leb}
use lib.ListN.{length, take, drop, length-append, length-drop}
use lib.Seq.{sets, sets-eq, length-sets, take-append_seam, drop-append-add, drop-drop}
use borrow.Author.Tests.{le-leb}
use Rattle.parts.proofs.Picks.{pick_true}
use Rattle.crc.specs.Crc.{crc_bytes, closed, closed_at}
use Rattle.reply.specs.Reply.{buffer_of}
use Rattle.reply.specs.Claims.{ReplyWhole}

take_none : (o : List ℕ) → take 0 o ≡ []
take_none [] = refl
take_none (x ∷ o) = refl

-- stored from place 0 on
from_start : (b o : List ℕ) → length b ≤ length o → sets o 0 b ≡ b ++ drop (length b) o
from_start b o h =
    let none : 0 + length b ≡ length b = omega arith in
    sets-eq b o 0 (omega (arith, h))
    ∙ ap (λ (l : List ℕ). l ++ b ++ drop (0 + length b) o) (take_none o)
    ∙ ap (λ (n : ℕ). b ++ drop n o) none

-- two bytes more, right behind
behind : (b r : List ℕ) (x y : ℕ) → 2 ≤ length r → sets (b ++ r) (length b) (x ∷ y ∷ []) ≡ (b ++ x ∷ y ∷ []) ++ drop 2 r
behind b r x y h =
    sets-eq (x ∷ y ∷ []) (b ++ r) (length b) (omega (arith, length-append b r, h))
    ∙ ap (λ (l : List ℕ). l ++ (x ∷ y ∷ []) ++ drop (length b + 2) (b ++ r)) (take-append_seam b r)
    ∙ ap (λ (l : List ℕ). (b ++ x ∷ y ∷ []) ++ l) (drop-append-add b r 2)

pub reply_whole : ReplyWhole
unfolding buffer_of closed_at
reply_whole b o h =
    sym (pick_true _ _ _ (leb (length b + 2) (length (sets o 0 b))) (le-leb (length b + 2) (length (sets o 0 b)) (omega (arith, h, length-sets o 0 b)))
    (sym (ap (λ (l : List ℕ). sets l (length b) (crc_bytes (take (length b) l))) (from_start b o (omega (arith, h)))
    ∙ ap (λ (l : List ℕ). sets (b ++ drop (length b) o) (length b) (crc_bytes l)) (take-append_seam b (drop (length b) o))
    ∙ behind b (drop (length b) o) _ _ (omega (arith, h, length-drop (length b) o))
    ∙ ap (λ (l : List ℕ). closed b ++ l) (drop-drop 2 (length b) o))))
