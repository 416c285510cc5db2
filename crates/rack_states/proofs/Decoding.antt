-- Sixteen tags decoded one after the other. Assumes nothing.
use mathlib.Core.Path.{◌≡◌, refl, sym, ap, ◌∙◌}
use mathlib.Core.Bool.{Bool, true, false}
use mathlib.Core.List.{List, [], ◌∷◌, ◌++◌, append-nil}
use Prim.Native.Nat.{ℕ, suc, ◌+◌, ◌*◌, ◌-◌, ◌/◌, ◌<◌, min}
use native.Mathlib.Omega.{arith}
use native.Mathlib.Numerals.{add-one}
use borrow.Author.Tests.{leb-true, leb-false}
use lib.Dec.{leb}
use lib.ListN.{length, take, drop, set, replicate}
use Rattle.tag.specs.declared.Tag.{Tag}
use Rattle.state.specs.Layout.{state_bytes, tag_of}
use Rattle.rack_states.specs.States.{tags_at, spare_tag, sixteen_at}
use Rattle.rack_states.proofs.States.{tags_number, tags_more, tag_stored, sixteen_few, sixteen_many}

-- i of them are
pub record Decoding (s : List ℕ) (ts : List Tag) (i : ℕ) : Type 0 where
  pub row : ts ≡ tags_at i s ++ replicate (16 - i) spare_tag

pub decoding_starts : (s : List ℕ) (z : Tag) → z ≡ spare_tag → Decoding s (replicate 16 z) 0
unfolding tags_at
decoding_starts s z h = record { row = ap (replicate 16) h }

-- one more
pub decoding_more : (s : List ℕ) (ts : List Tag) (i n : ℕ) (x : Tag) → Decoding s ts i → i < 16 → n ≡ state_bytes
    → x ≡ tag_of (take n (drop (i * state_bytes) s)) → Decoding s (set ts i x) (i + 1)
decoding_more s ts i n x d few e f =
    let left : 16 - i ≡ suc (16 - (i + 1)) = omega arith in
    let place : i * state_bytes ≡ state_bytes * i = omega arith in
    let value : x ≡ tag_of (take state_bytes (drop (state_bytes * i) s)) =
    f ∙ ap (λ (k : ℕ). tag_of (take k (drop (i * state_bytes) s))) e ∙ ap (λ (k : ℕ). tag_of (take state_bytes (drop k s))) place in
    record {
      row = ap (λ (l : List Tag). set l i x) (d.row ∙ ap (λ (k : ℕ). tags_at i s ++ replicate k spare_tag) left)
          ∙ tag_stored (tags_at i s) x spare_tag i (16 - (i + 1)) (tags_number i s)
          ∙ ap (λ (y : Tag). (tags_at i s ++ y ∷ []) ++ replicate (16 - (i + 1)) spare_tag) value
          ∙ ap (λ (l : List Tag). l ++ replicate (16 - (i + 1)) spare_tag) (sym (ap (λ (k : ℕ). tags_at k s) (add-one i) ∙ tags_more i s));
    }

-- ---- sixteen are decoded, or no state is left
pub decoding_ends : (s : List ℕ) (ts : List Tag) (i : ℕ) → Decoding s ts i → i ≡ min 16 (length s / state_bytes) → ts ≡ sixteen_at s
decoding_ends s ts i d e = by (leb 16 (length s / state_bytes)) refl
  where
    by : (b : Bool) → leb 16 (length s / state_bytes) ≡ b → ts ≡ sixteen_at s
    by true h =
        let more = leb-true 16 (length s / state_bytes) h in
        let all : i ≡ 16 = omega (arith, e, more) in
        d.row
        ∙ ap (λ (k : ℕ). tags_at k s ++ replicate (16 - k) spare_tag) all
        ∙ append-nil (tags_at 16 s)
        ∙ sym (sixteen_many (length s / state_bytes) s (replicate 16 spare_tag) more)
    by false h =
        let fewer = leb-false 16 (length s / state_bytes) h in
        let number : i ≡ length s / state_bytes = omega (arith, e, fewer) in
        d.row ∙ sym (sixteen_few i s spare_tag (omega (arith, number, fewer))) ∙ ap (λ (k : ℕ). take 16 (tags_at k s ++ replicate 16 spare_tag)) number
