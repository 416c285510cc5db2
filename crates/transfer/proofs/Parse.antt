-- A finished list of signals is what its legs say. Assumes nothing.
use mathlib.Core.Path.{◌≡◌, refl, ap, ◌∙◌}
use mathlib.Core.Bool.{Bool, true, false, false≢true}
use mathlib.Core.List.{List, [], ◌∷◌, ◌++◌}
use Prim.Native.Nat.{ℕ}
use Rattle.parts.specs.Pick.{pick}
use Rattle.select.specs.Select.{select_of}
use Rattle.transfer.specs.Legs.{Noted, NotedStart, NotedSend, NotedFetch, NotedStop, NotedVccOff, select_refused, ends, fresher, is_empty, finished, Move, move_send, move_fetch, Finish, at_stop, at_vcc_off, at_refusal, Legs, leg, last, push, parse}
use Rattle.transfer.proofs.Run.{signals}

unfoldable pub end_signals : Finish → List Noted
end_signals at_stop = NotedStop ∷ []
end_signals at_vcc_off = NotedVccOff ∷ []
end_signals at_refusal = []

unfoldable pub render : Legs → List Noted
render (leg ms l) = signals ms ++ NotedStart ∷ render l
render (last ms e) = signals ms ++ end_signals e

-- the first byte sent is a select that is not Acked
unfoldable pub refuses : Bool → List Move → Bool
refuses false ms = false
refuses true [] = false
refuses true (move_fetch a ∷ ms) = refuses true ms
refuses true (move_send x ∷ ms) = select_refused (select_of x)

unfoldable pub done : Bool → Legs → Bool
done fresh (leg ms l) = done true l
done fresh (last ms at_stop) = true
done fresh (last ms at_vcc_off) = true
done fresh (last ms at_refusal) = refuses fresh ms

pub record Parted (fresh : Bool) (n : List Noted) : Type 0 where
  pub same : render (parse n) ≡ n
  pub ends : done fresh (parse n) ≡ true

render_push : (a : Move) (l : Legs) → render (push a l) ≡ signals (a ∷ []) ++ render l
unfolding render push signals
render_push (move_send x) (leg ms l) = refl
render_push (move_send x) (last ms e) = refl
render_push (move_fetch a) (leg ms l) = refl
render_push (move_fetch a) (last ms e) = refl

done_fetch : (fresh : Bool) (a : Bool) (l : Legs) → done fresh (push (move_fetch a) l) ≡ done fresh l
unfolding done push refuses
done_fetch fresh a (leg ms l) = refl
done_fetch fresh a (last ms at_stop) = refl
done_fetch fresh a (last ms at_vcc_off) = refl
done_fetch true a (last ms at_refusal) = refl
done_fetch false a (last ms at_refusal) = refl

done_send : (fresh : Bool) (x : ℕ) (l : Legs) → done false l ≡ true → done fresh (push (move_send x) l) ≡ true
unfolding done push refuses
done_send fresh x (leg ms l) h = h
done_send fresh x (last ms at_stop) h = refl
done_send fresh x (last ms at_vcc_off) h = refl
done_send fresh x (last ms at_refusal) h = absurd (false≢true h)

sent_on : (fresh : Bool) (x : ℕ) (n : List Noted) → Parted false n → Parted fresh (NotedSend x ∷ n)
unfolding parse signals
sent_on fresh x n p = record {
  same = render_push (move_send x) (parse n) ∙ ap (λ (n : List Noted). NotedSend x ∷ n) p.same;
  ends = done_send fresh x (parse n) p.ends;
}

fetched_on : (fresh a : Bool) (n : List Noted) → Parted fresh n → Parted fresh (NotedFetch a ∷ n)
unfolding parse signals
fetched_on fresh a n p = record {
  same = render_push (move_fetch a) (parse n) ∙ ap (λ (n : List Noted). NotedFetch a ∷ n) p.same;
  ends = done_fetch fresh a (parse n) ∙ p.ends;
}

selected_on : (x : ℕ) (n : List Noted) → (finished false n ≡ true → Parted false n) → (b : Bool) → select_refused (select_of x) ≡ b
    → pick b (is_empty n) (finished false n) ≡ true → Parted true (NotedSend x ∷ n)
unfolding parse push render end_signals signals done refuses is_empty pick
selected_on x [] ih true q h = record { same = refl; ends = q }
selected_on x (s ∷ n) ih true q h = absurd (false≢true h)
selected_on x n ih false q h = sent_on true x n (ih h)

pub parted : (n : List Noted) (fresh : Bool) → finished fresh n ≡ true → Parted fresh n
unfolding finished ends fresher pick parse render end_signals signals done is_empty
parted [] fresh h = absurd (false≢true h)
parted (NotedStart ∷ n) fresh h = let p = parted n true h in record { same = ap (λ (n : List Noted). NotedStart ∷ n) p.same; ends = p.ends }
parted (NotedFetch a ∷ n) fresh h = fetched_on fresh a n (parted n fresh h)
parted (NotedStop ∷ []) fresh h = record { same = refl; ends = refl }
parted (NotedStop ∷ s ∷ n) fresh h = absurd (false≢true h)
parted (NotedVccOff ∷ []) fresh h = record { same = refl; ends = refl }
parted (NotedVccOff ∷ s ∷ n) fresh h = absurd (false≢true h)
parted (NotedSend x ∷ n) false h = sent_on false x n (parted n false h)
parted (NotedSend x ∷ n) true h = selected_on x n (parted n false) (select_refused (select_of x)) refl h
