-- A refusal leaves every lent byte. Assumes nothing.
use mathlib.Core.Path.{◌≡◌, refl, sym, ap, ◌∙◌}
use mathlib.Core.Bool.{Bool, true, false, false≢true}
use mathlib.Core.List.{List}
use Prim.Native.Nat.{ℕ, zero, suc, ◌<◌}
use Rattle.std.specs.Prelude.{Ok, Err, Some, None}
use native.Mathlib.Omega.{arith}
use Rattle.parts.proofs.Picks.{pick_case}
use Rattle.refusals.specs.declared.Refusal.{Refusal}
use Rattle.refusals.specs.Refusals.{judgement, unless_refused, Judgement}
use Rattle.refusals.proofs.Laws.{NoneApplies, none_applies, no_refusal, judged_case}
use Rattle.model.specs.Step.{is_refused}
use Rattle.calls.specs.Calls.{entry}
use Rattle.capi.specs.Interface.{CallResult, call_result}
use Rattle.capi.proofs.Refusals.{number_refused}
use Rattle.rack.specs.Rack.{Rack, RackCall}
use Rattle.rack.specs.Rules.{rack_rules}
use Rattle.rack.specs.Step.{RackStep, rack_result, rack_refused, rack_acts, rack_step, rack_entry}
use Rattle.rack_search.specs.Search.{slot_count, sends_frame, sends_next, collides, SearchResult, search_result, look, search_rules, search_of, search_entry, SearchAnswer}
use Rattle.library_rack_refusals.specs.Rules.{rack_at, rack_step_rules, rack_search_rules}
use Rattle.capi_rack.specs.RackInterface.{search_number, RackCallResult, rack_call_result, rack_step_call, rack_search_call}
use Rattle.capi_rack.specs.RackClaims.{RefusedRackStepKeeps, RefusedSearchKeeps}
use Rattle.capi_rack.proofs.Says.{rack_served}

-- ---- one call
-- the library's rules refuse what the rack's do
rack_unrefused : (n : ℕ) (s m : List ℕ) (c : RackCall) → judgement (rack_step_rules n s m c) ≡ Ok tt → judgement (rack_rules (rack_at n s m) c) ≡ Ok tt
unfolding NoneApplies
rack_unrefused n s m c h =
    let none = none_applies (rack_step_rules n s m c) h in
    no_refusal (rack_rules (rack_at n s m) c) (none.0, (none.1.0, (none.1.1.0, none.1.1.1.1.1)))

entry_served : (r : Rack) (c : RackCall) → judgement (rack_rules r c) ≡ Ok tt → is_refused (rack_entry r c).says.says.answer ≡ false
unfolding rack_step unless_refused
entry_served r c h =
    ap (λ (j : Judgement). is_refused (unless_refused j (λ (x : Refusal). rack_result (rack_refused x c.handed) r) (rack_acts entry r c)).says.says.answer) h ∙ rack_served r c h

abbrev Still : List ℕ → List ℕ → List ℕ → RackCallResult → Type 0
Still s m o result = result.number < 0x100 → result ≡ rack_call_result result.number 0 s m o

pub refused_rack_step_keeps : RefusedRackStepKeeps
unfolding rack_step_call
refused_rack_step_keeps n s m c =
    judged_case (Still s m c.handed.buffer) _ _ _ (λ _ _ _. refl)
    (λ h l. absurd (false≢true (sym (entry_served (rack_at n s m) c (rack_unrefused n s m c h)) ∙ number_refused (rack_entry (rack_at n s m) c).says.says.answer l)))

-- ---- the search
unfoldable is_refused_search : SearchAnswer → Bool
is_refused_search (Err x) = true
is_refused_search (Ok None) = false
is_refused_search (Ok (Some k)) = false

search_number_refused : (answer : SearchAnswer) → search_number answer < 0x100 → is_refused_search answer ≡ true
unfolding search_number is_refused_search
search_number_refused (Err x) h = refl
search_number_refused (Ok None) h = absurd (omega arith)
search_number_refused (Ok (Some k)) h = absurd (omega arith)

look_served : (go : RackStep) (n k : ℕ) (r : Rack) (c : RackCall) → is_refused_search (look go n k r c).answer ≡ false
unfolding look is_refused_search
look_served go zero k r c = refl
look_served go (suc n) k r c =
    pick_case (λ (result : SearchResult). is_refused_search result.answer ≡ false) (collides (go r c)) _ _ (λ _. refl)
    (λ _. look_served go n (suc k) (go r c).rack (sends_next (go r c)))

search_unrefused : (n : ℕ) (s m o : List ℕ) → judgement (rack_search_rules n s m o) ≡ Ok tt → judgement (search_rules (rack_at n s m) o) ≡ Ok tt
unfolding NoneApplies
search_unrefused n s m o h =
    let none = none_applies (rack_search_rules n s m o) h in
    no_refusal (search_rules (rack_at n s m) o) (none.0, (none.1.0, none.1.1.1.1))

search_served : (r : Rack) (o f : List ℕ) → judgement (search_rules r o) ≡ Ok tt → is_refused_search (search_entry r o f).answer ≡ false
unfolding search_of unless_refused
search_served r o f h =
    ap (λ (j : Judgement). is_refused_search (unless_refused j (λ (x : Refusal). search_result (Err x) r o) (look rack_entry (slot_count f) 0 r (sends_frame o f))).answer) h
    ∙ look_served rack_entry (slot_count f) 0 r (sends_frame o f)

abbrev StillSearched : List ℕ → List ℕ → List ℕ → CallResult → Type 0
StillSearched s m o result = result.number < 0x100 → result ≡ call_result result.number s m o

pub refused_search_keeps : RefusedSearchKeeps
unfolding rack_search_call
refused_search_keeps n s m o f =
    judged_case (StillSearched s m o) _ _ _ (λ _ _ _. refl)
    (λ h l. absurd (false≢true (sym (search_served (rack_at n s m) o f (search_unrefused n s m o h)) ∙ search_number_refused (search_entry (rack_at n s m) o f).answer l)))
