-- A call over the states of tags is the rack's call of those tags. Assumes nothing.
use mathlib.Core.Path.{◌≡◌, refl, sym, ap, ◌∙◌}
use mathlib.Core.Bool.{true, not}
use mathlib.Core.List.{List, [], ◌∷◌, ◌++◌}
use Prim.Native.Nat.{ℕ, suc, ◌+◌, ◌*◌}
use Rattle.std.specs.Prelude.{Ok, Err}
use native.Mathlib.Omega.{arith}
use lib.ListN.{length, take, drop, length-append}
use lib.Seq.{take_at, drop_at}
use borrow.Author.Tests.{eq-eqb, eqb-true}
use Rattle.parts.proofs.Bools.{and_both}
use Rattle.tag.specs.declared.Tag.{Tag}
use Rattle.state.specs.Layout.{state_bytes, bytes_of, decodes, tag_of}
use Rattle.state.specs.Claims.{Fits}
use Rattle.state.proofs.There.{decodes_encoded}
use Rattle.refusals.specs.declared.Refusal.{Refusal}
use Rattle.refusals.specs.Call.{handed_in}
use Rattle.refusals.specs.Refusals.{number, RefusalRule, reply_rule, signal_rule, judgement, unless_refused, Judgement}
use Rattle.refusals.proofs.Laws.{NoneApplies, no_refusal, judgement_append, append_none}
use Rattle.capi.specs.Interface.{answer_number, call_result}
use Rattle.capi.proofs.Tags.{decodes_length}
use Rattle.rack.specs.Rack.{Rack, RackCall, rack_of}
use Rattle.rack.specs.Rules.{rack_memory_rule, rack_range_rule, size_rule, named_rule, uids_rule, rack_rules}
use Rattle.rack.specs.Step.{rack_refused, rack_result, rack_acts, rack_step, rack_entry}
use Rattle.calls.specs.Calls.{entry}
use Rattle.rack_search.specs.Search.{slot_count, sends_frame, look, search_result, search_rules, search_of, search_entry}
use Rattle.rack_states.specs.States.{states_of, tags_at, all_decode}
use Rattle.library_rack_refusals.specs.Rules.{rack_at, states_rule, all_decode_rule, rack_step_rules, rack_search_rules}
use Rattle.capi_rack.specs.RackInterface.{mask_of, search_number, rack_call_result, rack_called, rack_step_call, search_called, rack_search_call}
use Rattle.capi_rack.specs.RackClaims.{AllTagsFit, StepsTheRack, SearchesTheRack}

-- ---- the states of tags
pub state_long : (t : Tag) → Fits t → length (bytes_of t) ≡ state_bytes
state_long t f = eqb-true _ _ (decodes_length (bytes_of t) (decodes_encoded t f).0)

pub record Encoded (ts : List Tag) : Type 0 where
  pub long : length (states_of ts) ≡ length ts * state_bytes
  pub whole : all_decode (length ts) (states_of ts) ≡ true
  pub back : tags_at (length ts) (states_of ts) ≡ ts

first_state : (t : Tag) (s : List ℕ) → Fits t → take state_bytes (bytes_of t ++ s) ≡ bytes_of t
first_state t s f = take_at (bytes_of t) s state_bytes (state_long t f)

rest_states : (t : Tag) (s : List ℕ) → Fits t → drop state_bytes (bytes_of t ++ s) ≡ s
rest_states t s f = drop_at (bytes_of t) s state_bytes (state_long t f)

one_more : (t : Tag) (ts : List Tag) → Fits t → Encoded ts → Encoded (t ∷ ts)
unfolding states_of all_decode tags_at
one_more t ts f e =
    let s = states_of ts in
    let d = decodes_encoded t f in
    let n = length ts in
    record {
      long =
          let a = length-append (bytes_of t) s in
          let b = state_long t f in
          let c = e.long in
          omega (arith, a, b, c);
      whole =
          and_both (decodes (take state_bytes (bytes_of t ++ s))) (all_decode n (drop state_bytes (bytes_of t ++ s)))
          (ap decodes (first_state t s f) ∙ d.0) (ap (all_decode n) (rest_states t s f) ∙ e.whole);
      back =
          ap (λ (x : List ℕ). tag_of x ∷ tags_at n (drop state_bytes (bytes_of t ++ s))) (first_state t s f)
          ∙ ap (λ (x : List ℕ). tag_of (bytes_of t) ∷ tags_at n x) (rest_states t s f)
          ∙ ap (λ (x : Tag). x ∷ tags_at n s) d.1
          ∙ ap (λ (l : List Tag). t ∷ l) e.back;
    }

none_encoded : Encoded []
unfolding states_of all_decode tags_at
none_encoded = record { long = refl; whole = refl; back = refl }

pub encoded : (ts : List Tag) → AllTagsFit ts → Encoded ts
encoded [] h = none_encoded
encoded (t ∷ ts) h = one_more t ts (h 0 (omega arith)) (encoded ts (λ i l. h (suc i) (omega arith)))

-- ---- rules in the middle that do not apply
pub idle_between : (rs qs ps : List RefusalRule) → NoneApplies qs → judgement (rs ++ (qs ++ ps)) ≡ judgement (rs ++ ps)
idle_between rs qs ps h =
    judgement_append rs (qs ++ ps) ∙ ap (unless_refused (judgement rs) Err) (append_none qs ps (no_refusal qs h)) ∙ sym (judgement_append rs ps)

-- what is refused, judged once more inside
again : {A B : Type 0} (f : A → B) (j : Judgement) (refuses : Refusal → A) (serves : A)
    → unless_refused j (λ r. f (refuses r)) (f (unless_refused j refuses serves)) ≡ f (unless_refused j refuses serves)
unfolding unless_refused
again f (Ok tt) refuses serves = refl
again f (Err r) refuses serves = refl

-- ---- states that decode
library_idle : (n : ℕ) (s : List ℕ) → length s ≡ n * state_bytes → all_decode n s ≡ true → NoneApplies (states_rule n s ∷ all_decode_rule n s ∷ [])
unfolding NoneApplies
library_idle n s l h = (ap not (eq-eqb (length s) (n * state_bytes) l), (ap not h, tt))

module _ (ts : List Tag) (m : List ℕ) (e : Encoded ts) where
  abbrev s : List ℕ
  s = states_of ts

  abbrev n : ℕ
  n = length ts

  at_is : rack_at n s m ≡ rack_of ts m
  at_is = ap (λ (l : List Tag). rack_of l m) e.back

  step_judged : (c : RackCall) → judgement (rack_step_rules n s m c) ≡ judgement (rack_rules (rack_of ts m) c)
  step_judged c =
      let r = rack_at n s m in
      idle_between (rack_memory_rule r ∷ reply_rule c.handed ∷ signal_rule c.handed ∷ []) (states_rule n s ∷ all_decode_rule n s ∷ []) (rack_range_rule r ∷ size_rule r ∷ named_rule r c ∷ uids_rule r ∷ []) (library_idle n s e.long e.whole)
      ∙ ap (λ (r : Rack). judgement (rack_rules r c)) at_is

  search_judged : (o : List ℕ) → judgement (rack_search_rules n s m o) ≡ judgement (search_rules (rack_of ts m) o)
  search_judged o =
      let r = rack_at n s m in
      idle_between (rack_memory_rule r ∷ reply_rule (handed_in o 8 0 []) ∷ []) (states_rule n s ∷ all_decode_rule n s ∷ []) (rack_range_rule r ∷ size_rule r ∷ uids_rule r ∷ []) (library_idle n s e.long e.whole)
      ∙ ap (λ (r : Rack). judgement (search_rules r o)) at_is

  pub steps : (c : RackCall) → rack_step_call n s m c ≡ rack_called (rack_entry (rack_of ts m) c)
  unfolding rack_step_call rack_step answer_number mask_of
  steps c =
      let r = rack_of ts m in
      ap (λ (j : Judgement). unless_refused j (λ (x : Refusal). rack_call_result (number x) 0 s m c.handed.buffer) (rack_called (rack_entry (rack_at n s m) c))) (step_judged c)
      ∙ ap (λ (q : Rack). unless_refused (judgement (rack_rules r c)) (λ (x : Refusal). rack_call_result (number x) 0 s m c.handed.buffer) (rack_called (rack_entry q c))) at_is
      ∙ again rack_called (judgement (rack_rules r c)) (λ (x : Refusal). rack_result (rack_refused x c.handed) r) (rack_acts entry r c)

  pub searches : (o f : List ℕ) → rack_search_call n s m o f ≡ search_called (search_entry (rack_of ts m) o f)
  unfolding rack_search_call search_of search_number
  searches o f =
      let r = rack_of ts m in
      ap (λ (j : Judgement). unless_refused j (λ (x : Refusal). call_result (number x) s m o) (search_called (search_entry (rack_at n s m) o f))) (search_judged o)
      ∙ ap (λ (q : Rack). unless_refused (judgement (search_rules r o)) (λ (x : Refusal). call_result (number x) s m o) (search_called (search_entry q o f))) at_is
      ∙ again search_called (judgement (search_rules r o)) (λ (x : Refusal). search_result (Err x) r o) (look rack_entry (slot_count f) 0 r (sends_frame o f))

pub steps_the_rack : StepsTheRack
steps_the_rack ts m c h = steps ts m (encoded ts h) c

pub searches_the_rack : SearchesTheRack
searches_the_rack ts m o f h = searches ts m (encoded ts h) o f
