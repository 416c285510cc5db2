-- What holds of a rack call whose bytes are not refused. Assumes nothing.
use mathlib.Core.Path.{◌≡◌, refl, sym, ap, ◌∙◌}
use mathlib.Core.Bool.{Bool, true, false, not, false≢true}
use mathlib.Core.List.{List, [], ◌∷◌, ◌++◌, append-nil}
use Prim.Native.Nat.{ℕ, zero, suc, ◌+◌, ◌*◌, ◌≤◌}
use Rattle.std.specs.Prelude.{Ok, Err}
use native.Mathlib.Omega.{arith}
use borrow.Author.Tests.{eqb-true, not-false, ltb-false}
use lib.Dec.{ltb, eqb}
use lib.ListN.{length, take, drop, length-drop, take-append-drop, drop_of_length-le}
use Rattle.parts.specs.Pick.{pick}
use Rattle.parts.specs.Bytes.{are_bytes}
use Rattle.parts.proofs.Bools.{and_left, and_right, or_second}
use Rattle.tag.specs.declared.Tag.{Tag}
use Rattle.state.specs.Layout.{state_bytes, decodes}
use Rattle.state.proofs.Again.{encodes_decoded}
use Rattle.refusals.specs.declared.Refusal.{Refusal}
use Rattle.refusals.specs.Call.{Call, handed_in}
use Rattle.refusals.specs.Refusals.{RefusalRule, reply_rule, signal_rule, judgement}
use Rattle.refusals.proofs.Laws.{NoneApplies, none_applies, append_refused}
use Rattle.signal_table.proofs.Laws.{frame_known}
use Rattle.rack.specs.Rack.{Rack, RackCall}
use Rattle.rack.specs.Rules.{rack_memory_rule, rack_range_rule, size_rule, named_rule, uids_rule}
use Rattle.rack.specs.Step.{rack_entry}
use Rattle.rack_search.specs.Search.{search_entry}
use Rattle.rack_states.specs.States.{states_of, tags_at, all_decode, stored_tags}
use Rattle.rack_states.proofs.States.{tags_number}
use Rattle.rack_states.proofs.Stored.{stored_first, stored_none}
use Rattle.library_rack_refusals.specs.Rules.{rack_at, states_rule, all_decode_rule, rack_step_rules, rack_search_rules, rack_bytes_rules}
use Rattle.capi_rack.specs.RackInterface.{rack_called, rack_step_call, search_called, rack_search_call}
use Rattle.capi_rack.proofs.Racks.{Encoded, steps, searches, idle_between}

-- ---- bytes that decode are the states of the tags that they decode to
pub are_take : (n : ℕ) (s : List ℕ) → are_bytes s ≡ true → are_bytes (take n s) ≡ true
unfolding are_bytes
are_take zero s h = refl
are_take (suc n) [] h = refl
are_take (suc n) (x ∷ s) h = rw (and_left (ltb x 256) (are_bytes s) h) (are_take n s (and_right (ltb x 256) (are_bytes s) h))

pub are_drop : (n : ℕ) (s : List ℕ) → are_bytes s ≡ true → are_bytes (drop n s) ≡ true
unfolding are_bytes
are_drop zero s h = h
are_drop (suc n) [] h = refl
are_drop (suc n) (x ∷ s) h = are_drop n s (and_right (ltb x 256) (are_bytes s) h)

pub states_back : (n : ℕ) (s : List ℕ) → are_bytes s ≡ true → length s ≡ n * state_bytes → all_decode n s ≡ true → states_of (tags_at n s) ≡ s
unfolding states_of tags_at all_decode
states_back zero [] b l h = refl
states_back zero (x ∷ s) b l h = absurd (omega arith)
states_back (suc n) s b l h =
    let first = and_left (decodes (take state_bytes s)) (all_decode n (drop state_bytes s)) h in
    let rest = and_right (decodes (take state_bytes s)) (all_decode n (drop state_bytes s)) h in
    ap (λ (x : List ℕ). x ++ states_of (tags_at n (drop state_bytes s))) (encodes_decoded (take state_bytes s) (are_take state_bytes s b) first)
    ∙ ap (λ (x : List ℕ). take state_bytes s ++ x) (states_back n (drop state_bytes s) (are_drop state_bytes s b) (omega (arith, length-drop state_bytes s)) rest)
    ∙ take-append-drop state_bytes s

-- ---- what is known of bytes that are not refused
pub record Judged (n : ℕ) (s : List ℕ) : Type 0 where
  pub few : n ≤ 16
  pub long : length s ≡ n * state_bytes
  pub whole : all_decode n s ≡ true

few_of : (n : ℕ) (r : Rack) (b : Bool) → ltb 16 n ≡ b → length r.tags ≡ n → NoneApplies (pick b (rack_range_rule r ∷ size_rule r ∷ []) []) → n ≤ 16
unfolding NoneApplies pick
few_of n r false p e h = ltb-false 16 n p
few_of n r true p e h = absurd (false≢true (sym h.1.0 ∙ or_second (eqb (length r.tags) 0) (ltb 16 (length r.tags)) (ap (ltb 16) e ∙ p)))

pub judged : (n : ℕ) (s m : List ℕ) (c : Call) → judgement (rack_bytes_rules n s m c) ≡ Ok tt → Judged n s
unfolding NoneApplies
judged n s m c h =
    let none = none_applies (rack_bytes_rules n s m c) h in
    record {
      few = few_of n (rack_at n s m) (ltb 16 n) refl (tags_number n s) none.1.1.1.1.1;
      long = eqb-true _ _ (not-false _ none.1.1.1.0);
      whole = not-false _ none.1.1.1.1.0;
    }

encoded_at : (n : ℕ) (s : List ℕ) → are_bytes s ≡ true → Judged n s → Encoded (tags_at n s)
encoded_at n s b j =
    let back = states_back n s b j.long j.whole in
    let number = tags_number n s in
    record {
      long = ap length back ∙ j.long ∙ ap (λ (k : ℕ). k * state_bytes) (sym number);
      whole = ap (λ (k : ℕ). all_decode k (states_of (tags_at n s))) number ∙ ap (all_decode n) back ∙ j.whole;
      back = ap (λ (k : ℕ). tags_at k (states_of (tags_at n s))) number ∙ ap (tags_at n) back;
    }

-- the call is then the rack's
pub steps_at : (n : ℕ) (s m : List ℕ) (c : RackCall) → are_bytes s ≡ true → Judged n s → rack_step_call n s m c ≡ rack_called (rack_entry (rack_at n s m) c)
steps_at n s m c b j =
    ap (λ (x : List ℕ). rack_step_call n x m c) (sym (states_back n s b j.long j.whole))
    ∙ ap (λ (k : ℕ). rack_step_call k (states_of (tags_at n s)) m c) (sym (tags_number n s))
    ∙ steps (tags_at n s) m (encoded_at n s b j) c

pub searches_at : (n : ℕ) (s m o f : List ℕ) → are_bytes s ≡ true → Judged n s → rack_search_call n s m o f ≡ search_called (search_entry (rack_at n s m) o f)
searches_at n s m o f b j =
    ap (λ (x : List ℕ). rack_search_call n x m o f) (sym (states_back n s b j.long j.whole))
    ∙ ap (λ (k : ℕ). rack_search_call k (states_of (tags_at n s)) m o f) (sym (tags_number n s))
    ∙ searches (tags_at n s) m (encoded_at n s b j) o f

-- ---- bytes that are refused
abbrev first_rules : ℕ → List ℕ → Rack → Call → List RefusalRule
first_rules n s r c = rack_memory_rule r ∷ reply_rule c ∷ signal_rule c ∷ states_rule n s ∷ all_decode_rule n s ∷ []

step_by : (n : ℕ) (s : List ℕ) (r : Rack) (c : RackCall) (x : Refusal) (b : Bool)
    → judgement (first_rules n s r c.handed ++ pick b (rack_range_rule r ∷ size_rule r ∷ []) []) ≡ Err x
    → judgement (first_rules n s r c.handed ++ (rack_range_rule r ∷ size_rule r ∷ named_rule r c ∷ uids_rule r ∷ [])) ≡ Err x
unfolding pick
step_by n s r c x false h = append_refused (first_rules n s r c.handed) (rack_range_rule r ∷ size_rule r ∷ named_rule r c ∷ uids_rule r ∷ []) x h
step_by n s r c x true h =
    append_refused (first_rules n s r c.handed ++ (rack_range_rule r ∷ size_rule r ∷ [])) (named_rule r c ∷ uids_rule r ∷ []) x h

pub step_refused : (n : ℕ) (s m : List ℕ) (c : RackCall) (x : Refusal) → judgement (rack_bytes_rules n s m c.handed) ≡ Err x → judgement (rack_step_rules n s m c) ≡ Err x
step_refused n s m c x h = step_by n s (rack_at n s m) c x (ltb 16 n) h

-- a frame's signal is known
frame_idle : (o : List ℕ) → NoneApplies (signal_rule (handed_in o 8 0 []) ∷ [])
unfolding NoneApplies
frame_idle o = (ap not frame_known, tt)

search_by : (n : ℕ) (s o : List ℕ) (r : Rack) (x : Refusal) (b : Bool)
    → judgement (first_rules n s r (handed_in o 8 0 []) ++ pick b (rack_range_rule r ∷ size_rule r ∷ []) []) ≡ Err x
    → judgement (first_rules n s r (handed_in o 8 0 []) ++ (rack_range_rule r ∷ size_rule r ∷ uids_rule r ∷ [])) ≡ Err x
unfolding pick
search_by n s o r x false h = append_refused (first_rules n s r (handed_in o 8 0 [])) (rack_range_rule r ∷ size_rule r ∷ uids_rule r ∷ []) x h
search_by n s o r x true h =
    append_refused (first_rules n s r (handed_in o 8 0 []) ++ (rack_range_rule r ∷ size_rule r ∷ [])) (uids_rule r ∷ []) x h

pub search_refused : (n : ℕ) (s m o : List ℕ) (x : Refusal) → judgement (rack_bytes_rules n s m (handed_in o 8 0 [])) ≡ Err x → judgement (rack_search_rules n s m o) ≡ Err x
search_refused n s m o x h =
    let r = rack_at n s m in
    sym (idle_between (rack_memory_rule r ∷ reply_rule (handed_in o 8 0 []) ∷ []) (signal_rule (handed_in o 8 0 []) ∷ [])
    (states_rule n s ∷ all_decode_rule n s ∷ rack_range_rule r ∷ size_rule r ∷ uids_rule r ∷ []) (frame_idle o))
    ∙ search_by n s o r x (ltb 16 n) h

-- ---- the first tags stored where they just fit
pub stored_fit : (n : ℕ) (ts : List Tag) (s : List ℕ) → n ≤ length ts → length s ≡ n * state_bytes → stored_tags ts s ≡ states_of (take n ts)
stored_fit n ts s h l =
    let rest : drop (state_bytes * n) s ≡ [] = drop_of_length-le s {i = state_bytes * n} (omega arith) in
    stored_first n ts s h (omega arith)
    ∙ ap (λ (x : List ℕ). states_of (take n ts) ++ stored_tags (drop n ts) x) rest
    ∙ ap (λ (x : List ℕ). states_of (take n ts) ++ x) (stored_none (drop n ts) [] (omega arith))
    ∙ append-nil (states_of (take n ts))
