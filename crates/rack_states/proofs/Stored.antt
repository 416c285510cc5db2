-- Tags stored one after the other. Assumes nothing.
use mathlib.Core.Path.{◌≡◌, refl, sym, ap, ◌∙◌}
use mathlib.Core.List.{List, [], ◌∷◌, ◌++◌, append-nil, append_assoc}
use Prim.Native.Nat.{ℕ, zero, suc, ◌+◌, ◌*◌, ◌-◌, ◌<◌, ◌≤◌}
use native.Mathlib.Omega.{arith}
use borrow.Author.Tests.{lt-ltb, le-ltb}
use lib.ListN.{length, get_or, take, drop, length-drop}
use lib.Seq.{drop-drop, take-suc, take_at, drop_at}
use borrow.Rule.Slice.PartMut.{put_mid}
use Rattle.parts.proofs.Picks.{pick_true, pick_false}
use Rattle.tag.specs.declared.Tag.{Tag}
use Rattle.state.specs.Layout.{state_bytes, bytes_of}
use Rattle.rack_states.specs.States.{states_of, stored_tags}

pub states_append : (ts us : List Tag) → states_of (ts ++ us) ≡ states_of ts ++ states_of us
unfolding states_of
states_append [] us = refl
states_append (t ∷ ts) us = ap (λ (l : List ℕ). bytes_of t ++ l) (states_append ts us) ∙ sym (append_assoc (bytes_of t) (states_of ts) (states_of us))

-- one more
pub states_more : (ts : List Tag) (i : ℕ) (z : Tag) → i < length ts → states_of (take (suc i) ts) ≡ states_of (take i ts) ++ bytes_of (get_or ts i z)
unfolding states_of
states_more ts i z h =
    ap states_of (take-suc ts i z h)
    ∙ states_append (take i ts) (get_or ts i z ∷ [])
    ∙ ap (λ (l : List ℕ). states_of (take i ts) ++ l) (append-nil (bytes_of (get_or ts i z)))

-- ---- what is left to store after the first ones
pub stored_first : (i : ℕ) (ts : List Tag) (s : List ℕ) → i ≤ length ts → state_bytes * i ≤ length s
    → stored_tags ts s ≡ states_of (take i ts) ++ stored_tags (drop i ts) (drop (state_bytes * i) s)
unfolding stored_tags states_of
stored_first zero ts s h l = refl
stored_first (suc i) [] s h l = absurd (omega arith)
stored_first (suc i) (t ∷ ts) s h l =
    let next : state_bytes + state_bytes * i ≡ state_bytes * suc i = omega arith in
    sym (pick_false _ _ _ _ (le-ltb (length s) state_bytes (omega arith)) refl)
    ∙ ap (λ (x : List ℕ). bytes_of t ++ x)
    (stored_first i ts (drop state_bytes s) (omega arith) (omega (arith, length-drop state_bytes s))
    ∙ ap (λ (x : List ℕ). states_of (take i ts) ++ stored_tags (drop i ts) x) (drop-drop (state_bytes * i) state_bytes s ∙ ap (λ (n : ℕ). drop n s) next))
    ∙ sym (append_assoc (bytes_of t) (states_of (take i ts)) (stored_tags (drop i ts) (drop (state_bytes * suc i) s)))

-- all are stored
pub stored_all : (ts : List Tag) (s : List ℕ) → state_bytes * length ts ≤ length s → stored_tags ts s ≡ states_of ts ++ drop (state_bytes * length ts) s
unfolding stored_tags states_of
stored_all [] s l = refl
stored_all (t ∷ ts) s l =
    let next : state_bytes + state_bytes * length ts ≡ state_bytes * suc (length ts) = omega arith in
    sym (pick_false _ _ _ _ (le-ltb (length s) state_bytes (omega arith)) refl)
    ∙ ap (λ (x : List ℕ). bytes_of t ++ x)
    (stored_all ts (drop state_bytes s) (omega (arith, length-drop state_bytes s))
    ∙ ap (λ (x : List ℕ). states_of ts ++ x) (drop-drop (state_bytes * length ts) state_bytes s ∙ ap (λ (n : ℕ). drop n s) next))
    ∙ sym (append_assoc (bytes_of t) (states_of ts) (drop (state_bytes * suc (length ts)) s))

-- there is no more room
pub stored_none : (ts : List Tag) (s : List ℕ) → length s < state_bytes → stored_tags ts s ≡ s
unfolding stored_tags
stored_none [] s h = refl
stored_none (t ∷ ts) s h = sym (pick_true _ _ _ _ (lt-ltb (length s) state_bytes h) refl)

-- ---- bytes stored after a part
pub next_stored : (p q x y s : List ℕ) (at n : ℕ) → s ≡ p ++ q → length p ≡ at → y ≡ x → put_mid at n s y ≡ (p ++ x) ++ drop n q
next_stored p q x y s at n e l f =
    ap (λ (z : List ℕ). put_mid at n z y) e
    ∙ ap (λ (z : List ℕ). z ++ (y ++ drop n (drop at (p ++ q)))) (take_at p q at l)
    ∙ ap (λ (z : List ℕ). p ++ (y ++ drop n z)) (drop_at p q at l)
    ∙ ap (λ (z : List ℕ). p ++ (z ++ drop n q)) f
    ∙ sym (append_assoc p x (drop n q))
