-- What the exported functions leave, from what their parts leave. Assumes nothing.
use mathlib.Core.Path.{◌≡◌, sym, ap, ◌∙◌}
use mathlib.Core.Bool.{Bool, true}
use mathlib.Core.List.{List, []}
use Prim.Native.Nat.{ℕ}
use Rattle.std.specs.Prelude.{Ok, Err}
use native.Mathlib.Omega.{arith}
use lib.ListN.{length, take}
use Rattle.parts.specs.Pick.{pick}
use Rattle.parts.specs.Bytes.{are_bytes}
use Rattle.tag.specs.declared.Tag.{Tag}
use Rattle.refusals.specs.declared.Refusal.{Refusal}
use Rattle.refusals.specs.Call.{handed_in}
use Rattle.refusals.specs.Refusals.{number, judgement, unless_refused, Judgement}
use Rattle.model.specs.declared.Answer.{Answer}
use Rattle.replies_fit.specs.Claims.{reply_fits}
use Rattle.calls.specs.Calls.{call_answer}
use Rattle.capi.specs.Interface.{answer_number, call_result}
use Rattle.capi.proofs.Calls.{number_fits}
use Rattle.rack.specs.Rack.{Rack, RackCall, rack_of}
use Rattle.rack.specs.Step.{numbers_from, rack_answer, RackResult, rack_result, rack_entry}
use Rattle.rack_search.specs.Search.{search_result, search_entry, SearchAnswer}
use Rattle.rack_states.specs.States.{states_of, sixteen_at, stored_tags}
use Rattle.rack_states.proofs.States.{sixteen_first}
use Rattle.library_rack_refusals.specs.Rules.{rack_at, rack_bytes_rules}
use Rattle.capi_rack.specs.RackInterface.{mask_of, search_number, rack_call_result, rack_called, rack_step_call, search_called, rack_search_call}
use Rattle.capi_rack.proofs.Says.{rack_short}
use Rattle.capi_rack.proofs.Unrefused.{judged, steps_at, searches_at, step_refused, search_refused, stored_fit}

pub refused_step : (n : ℕ) (s m : List ℕ) (c : RackCall) (x : Refusal) (k : ℕ) → judgement (rack_bytes_rules n s m c.handed) ≡ Err x → k ≡ number x
    → rack_call_result k 0 s m c.handed.buffer ≡ rack_step_call n s m c
unfolding rack_step_call unless_refused
refused_step n s m c x k h e =
    ap (λ (i : ℕ). rack_call_result i 0 s m c.handed.buffer) e
    ∙ ap (λ (j : Judgement). unless_refused j (λ (x : Refusal). rack_call_result (number x) 0 s m c.handed.buffer) (rack_called (rack_entry (rack_at n s m) c))) (sym (step_refused n s m c x h))

pub stepped : (n : ℕ) (s m : List ℕ) (c : RackCall) (answer : Answer) (flags : List Bool) (ts : List Tag) (m' o' s' : List ℕ) (k mask : ℕ)
    → are_bytes s ≡ true → judgement (rack_bytes_rules n s m c.handed) ≡ Ok tt
    → rack_result (rack_answer (call_answer answer o') (numbers_from 0 flags)) (rack_of (take n ts) m') ≡ rack_entry (rack_of (take n (sixteen_at s)) m) c
    → length ts ≡ 16 → s' ≡ stored_tags ts s → k ≡ pick (reply_fits answer) (answer_number answer) 0 → mask ≡ mask_of (numbers_from 0 flags)
    → rack_call_result k mask s' m' o' ≡ rack_step_call n s m c
stepped n s m c answer flags ts m' o' s' k mask b none e sixteen f g h =
    let j = judged n s m c.handed none in
    let rack : rack_of (take n (sixteen_at s)) m ≡ rack_at n s m = ap (λ (l : List Tag). rack_of l m) (sixteen_first n s j.few j.long) in
    let short : reply_fits answer ≡ true = ap (λ (r : RackResult). reply_fits r.says.says.answer) e ∙ rack_short (rack_of (take n (sixteen_at s)) m) c in
    let stored : s' ≡ states_of (take n ts) = f ∙ stored_fit n ts s (omega (arith, sixteen, j.few)) j.long in
    ap (λ (i : ℕ). rack_call_result i mask s' m' o') (number_fits answer k short g)
    ∙ ap (λ (i : ℕ). rack_call_result (answer_number answer) i s' m' o') h
    ∙ ap (λ (x : List ℕ). rack_call_result (answer_number answer) (mask_of (numbers_from 0 flags)) x m' o') stored
    ∙ ap rack_called e
    ∙ ap (λ (r : Rack). rack_called (rack_entry r c)) rack
    ∙ sym (steps_at n s m c b j)

-- ---- the search
pub refused_search : (n : ℕ) (s m o f : List ℕ) (x : Refusal) (k : ℕ) → judgement (rack_bytes_rules n s m (handed_in o 8 0 [])) ≡ Err x → k ≡ number x
    → call_result k s m o ≡ rack_search_call n s m o f
unfolding rack_search_call unless_refused
refused_search n s m o f x k h e =
    ap (λ (i : ℕ). call_result i s m o) e
    ∙ ap (λ (j : Judgement). unless_refused j (λ (x : Refusal). call_result (number x) s m o) (search_called (search_entry (rack_at n s m) o f))) (sym (search_refused n s m o x h))

pub searched : (n : ℕ) (s m o f : List ℕ) (answer : SearchAnswer) (ts : List Tag) (m' o' s' : List ℕ) (k : ℕ)
    → are_bytes s ≡ true → judgement (rack_bytes_rules n s m (handed_in o 8 0 [])) ≡ Ok tt
    → search_result answer (rack_of (take n ts) m') o' ≡ search_entry (rack_of (take n (sixteen_at s)) m) o f
    → length ts ≡ 16 → s' ≡ stored_tags ts s → k ≡ search_number answer
    → call_result k s' m' o' ≡ rack_search_call n s m o f
searched n s m o f answer ts m' o' s' k b none e sixteen stores g =
    let j = judged n s m (handed_in o 8 0 []) none in
    let rack : rack_of (take n (sixteen_at s)) m ≡ rack_at n s m = ap (λ (l : List Tag). rack_of l m) (sixteen_first n s j.few j.long) in
    let stored : s' ≡ states_of (take n ts) = stores ∙ stored_fit n ts s (omega (arith, sixteen, j.few)) j.long in
    ap (λ (i : ℕ). call_result i s' m' o') g
    ∙ ap (λ (x : List ℕ). call_result (search_number answer) x m' o') stored
    ∙ ap search_called e
    ∙ ap (λ (r : Rack). search_called (search_entry r o f)) rack
    ∙ sym (searches_at n s m o f b j)
