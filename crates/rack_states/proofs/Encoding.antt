-- Sixteen tags stored one after the other. Assumes nothing.
use mathlib.Core.Path.{◌≡◌, refl, sym, ap, ◌∙◌}
use mathlib.Core.Bool.{Bool, true, false}
use mathlib.Core.List.{List, ◌++◌}
use Prim.Native.Nat.{ℕ, ◌+◌, ◌*◌, ◌/◌, ◌<◌, ◌≤◌, min}
use native.Mathlib.Omega.{arith}
use native.Mathlib.Numerals.{add-one}
use borrow.Author.Tests.{leb-true, leb-false}
use lib.Dec.{leb}
use lib.ListN.{length, get_or, take, drop, length-append, length-drop}
use lib.Seq.{sets, drop-drop, take_all, length-take-le}
use borrow.Rule.Slice.PartMut.{put_mid}
use Rattle.parts.proofs.Lists.{replaced}
use Rattle.tag.specs.declared.Tag.{Tag}
use Rattle.state.specs.Layout.{state_bytes, bytes_of}
use Rattle.rack_states.specs.States.{states_of, stored_tags}
use Rattle.rack_states.proofs.Stored.{states_more, stored_first, stored_all, stored_none, next_stored}

-- i of them are; o is what the bytes were
pub record Encoding (o : List ℕ) (ts : List Tag) (s : List ℕ) (i : ℕ) : Type 0 where
  pub bytes : s ≡ states_of (take i ts) ++ drop (i * state_bytes) o
  pub stored : length (states_of (take i ts)) ≡ i * state_bytes

pub encoding_starts : (o : List ℕ) (ts : List Tag) → Encoding o ts o 0
unfolding states_of
encoding_starts o ts = record { bytes = refl; stored = refl }

-- one more
pub encoding_more : (o : List ℕ) (ts : List Tag) (s : List ℕ) (i n : ℕ) (z : Tag) (y : List ℕ)
    → Encoding o ts s i → length ts ≡ 16 → i < 16 → i * state_bytes + state_bytes ≤ length s → n ≡ state_bytes
    → y ≡ sets (take n (drop (i * state_bytes) s)) 0 (bytes_of (get_or ts i z)) → length (bytes_of (get_or ts i z)) ≡ state_bytes
    → Encoding o ts (put_mid (i * state_bytes) n s y) (i + 1)
encoding_more o ts s i n z y d number few room e f size =
    let t = get_or ts i z in
    let at = i * state_bytes in
    let next : at + state_bytes ≡ (i + 1) * state_bytes = omega arith in
    let more : states_of (take (i + 1) ts) ≡ states_of (take i ts) ++ bytes_of t =
    ap (λ (k : ℕ). states_of (take k ts)) (add-one i) ∙ states_more ts i z (omega arith) in
    let part : length (take n (drop at s)) ≡ length (bytes_of t) = length-take-le n (drop at s) (omega (arith, length-drop at s)) ∙ e ∙ sym size in
    record {
      bytes = next_stored (states_of (take i ts)) (drop at o) (bytes_of t) y s at n d.bytes d.stored (f ∙ replaced (bytes_of t) (take n (drop at s)) part)
          ∙ ap (λ (x : List ℕ). x ++ drop n (drop at o)) (sym more)
          ∙ ap (λ (x : List ℕ). states_of (take (i + 1) ts) ++ x) (drop-drop n at o ∙ ap (λ (k : ℕ). drop (at + k) o) e ∙ ap (λ (k : ℕ). drop k o) next);
      stored = ap length more ∙ length-append (states_of (take i ts)) (bytes_of t) ∙ ap (λ (k : ℕ). k + length (bytes_of t)) d.stored ∙ ap (λ (k : ℕ). at + k) size ∙ next;
    }

-- ---- all are stored, or there is no more room
pub encoding_ends : (o : List ℕ) (ts : List Tag) (s : List ℕ) (i : ℕ) → Encoding o ts s i → length ts ≡ 16 → i ≡ min 16 (length o / state_bytes) → s ≡ stored_tags ts o
encoding_ends o ts s i d number e = by (leb 16 (length o / state_bytes)) refl
  where
    by : (b : Bool) → leb 16 (length o / state_bytes) ≡ b → s ≡ stored_tags ts o
    by true h =
        let more = leb-true 16 (length o / state_bytes) h in
        let all : i ≡ 16 = omega (arith, e, more) in
        let place : i * state_bytes ≡ state_bytes * length ts = omega (arith, all, number) in
        d.bytes
        ∙ ap (λ (l : List Tag). states_of l ++ drop (i * state_bytes) o) (take_all i ts (omega (arith, all, number)))
        ∙ ap (λ (k : ℕ). states_of ts ++ drop k o) place
        ∙ sym (stored_all ts o (omega (arith, more, number)))
    by false h =
        let fewer = leb-false 16 (length o / state_bytes) h in
        let last : i ≡ length o / state_bytes = omega (arith, e, fewer) in
        let place : i * state_bytes ≡ state_bytes * i = omega arith in
        d.bytes
        ∙ ap (λ (k : ℕ). states_of (take i ts) ++ drop k o) place
        ∙ ap (λ (l : List ℕ). states_of (take i ts) ++ l) (sym (stored_none (drop i ts) (drop (state_bytes * i) o) (omega (arith, length-drop (state_bytes * i) o, last))))
        ∙ sym (stored_first i ts o (omega (arith, last, fewer, number)) (omega (arith, last)))
