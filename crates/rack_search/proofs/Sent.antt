-- A search leaves what the calls leave that it sends, one by one. Assumes nothing.
use mathlib.Core.Path.{◌≡◌, refl, sym, ◌∙◌, ap}
use mathlib.Core.List.{List}
use Prim.Native.Nat.{ℕ, zero, suc, ◌-◌, ◌≤◌}
use Rattle.std.specs.Prelude.{Ok, Err, Some, None}
use native.Mathlib.Omega.{arith}
use Rattle.parts.proofs.Picks.{pick_case}
use Rattle.rack_claims.specs.Passed.{Rack, RackCall, RackStep, rack_run}
use Rattle.rack_search.specs.Search.{sends_next, SearchResult, search_result, collides, look, SearchAnswer}
use Rattle.rack_search.specs.Claims.{sent_calls, buffer_after}

-- how many calls were sent that looked into n slots from k on
unfoldable pub opened : ℕ → ℕ → SearchAnswer → ℕ
opened n k (Err x) = 0
opened n k (Ok None) = n
opened n k (Ok (Some j)) = suc j - k

-- what was found there: not a refusal, nor a slot before k
unfoldable pub From : ℕ → SearchAnswer → Type 0
From k (Err x) = ⊥
From k (Ok None) = Unit {0}
From k (Ok (Some j)) = k ≤ j

more_opened : (n k : ℕ) (a : SearchAnswer) → From (suc k) a → opened (suc n) k a ≡ suc (opened n (suc k) a)
unfolding opened From
more_opened n k (Err x) h = absurd h
more_opened n k (Ok None) h = refl
more_opened n k (Ok (Some j)) h = omega arith

from_later : (k : ℕ) (a : SearchAnswer) → From (suc k) a → From k a
unfolding From
from_later k (Err x) h = h
from_later k (Ok None) h = h
from_later k (Ok (Some j)) h = omega arith

module _ (go : RackStep) where
  abbrev rack_after : ℕ → Rack → RackCall → Rack
  rack_after n r c = (rack_run go r (sent_calls go n r c)).rack

  abbrev left : ℕ → Rack → RackCall → List ℕ
  left n r c = buffer_after c.handed.buffer (rack_run go r (sent_calls go n r c)).answers

  pub record Left (n k : ℕ) (r : Rack) (c : RackCall) (l : SearchResult) : Type 0 where
    pub leaves : l.rack ≡ rack_after (opened n k l.answer) r c
    pub buffer : l.buffer ≡ left (opened n k l.answer) r c
    pub from : From k l.answer

  none_left : (k : ℕ) (r : Rack) (c : RackCall) → Left 0 k r c (search_result (Ok None) r c.handed.buffer)
  unfolding opened From sent_calls rack_run buffer_after
  none_left k r c = record { leaves = refl; buffer = refl; from = tt }

  found_left : (n k : ℕ) (r : Rack) (c : RackCall) → Left (suc n) k r c (search_result (Ok (Some k)) (go r c).rack (go r c).says.says.buffer)
  unfolding opened From sent_calls rack_run buffer_after
  found_left n k r c =
      let e : 1 ≡ suc k - k = omega arith in
      record { leaves = ap (λ (j : ℕ). rack_after j r c) e; buffer = ap (λ (j : ℕ). left j r c) e; from = omega arith }

  more_left : (n k : ℕ) (r : Rack) (c : RackCall) (l : SearchResult) → Left n (suc k) (go r c).rack (sends_next (go r c)) l → Left (suc n) k r c l
  unfolding sent_calls rack_run buffer_after
  more_left n k r c l q =
      let e = sym (more_opened n k l.answer q.from) in
      record {
        leaves = q.leaves ∙ ap (λ (j : ℕ). rack_after j r c) e;
        buffer = q.buffer ∙ ap (λ (j : ℕ). left j r c) e;
        from = from_later k l.answer q.from;
      }

  pub look_left : (n k : ℕ) (r : Rack) (c : RackCall) → Left n k r c (look go n k r c)
  unfolding look
  look_left zero k r c = none_left k r c
  look_left (suc n) k r c =
      pick_case (Left (suc n) k r c) (collides (go r c)) (search_result (Ok (Some k)) (go r c).rack (go r c).says.says.buffer) (look go n (suc k) (go r c).rack (sends_next (go r c)))
      (λ _. found_left n k r c)
      (λ _. more_left n k r c (look go n (suc k) (go r c).rack (sends_next (go r c))) (look_left n (suc k) (go r c).rack (sends_next (go r c))))
