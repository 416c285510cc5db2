-- Demand 3 for each tag of a rack. Assumes nothing.
use mathlib.Core.Path.{◌≡◌, refl, sym, ap, ◌∙◌}
use mathlib.Core.Bool.{true, not, ◌&&◌}
use mathlib.Core.List.{List, [], ◌∷◌}
use Prim.Native.Nat.{ℕ, suc}
use borrow.Author.Tests.{not-true}
use Rattle.parts.specs.Bytes.{are_bytes}
use Rattle.parts.proofs.Picks.{pick_case}
use Rattle.parts.proofs.Bools.{and_left, and_right, and_both}
use Rattle.refusals.specs.Refusals.{judgement}
use Rattle.refusals.specs.Call.{Call}
use Rattle.refusals.proofs.Laws.{judged_case}
use Rattle.demand3.specs.Passed.{transfer_open, no_transfer}
use Rattle.rack.specs.Passed.{CallAnswer, Device, frames_fit}
use Rattle.rack.proofs.Passed.{Fits}
use Rattle.demand3.specs.Demand3.{is_closed}
use Rattle.demand3.proofs.Demand3.{demand_3, ends_alike}
use Rattle.rack.specs.Rack.{Rack, RackCall, device_at, devices}
use Rattle.rack.specs.Rules.{rack_rules}
use Rattle.rack.specs.Step.{RackStep, rack_entry}
use Rattle.rack.proofs.Fits.{AllFit}
use Rattle.rack_claims.specs.Cut.{JudgedCall, judged_call, judged_calls, has_call, own_call, own_calls, of_each, answers_made}
use Rattle.rack_claims.specs.ItsTags.{rack_frames_fit, answers_alone}
use Rattle.rack_claims.specs.Demand3.{own_of, waits_for, RackDemand3, RackEndsAlike, answers_waited, stand_in, AnswersAsWaiting}
use Rattle.rack_claims.proofs.ItsTags.{is_its_tags}
use Rattle.rack_claims.proofs.WellFormed.{formed, formed_fit}

-- ---- the cut keeps that frames are bytes
pub frames_own : (go : RackStep) (i : ℕ) (cs : List RackCall) (r : Rack) → rack_frames_fit cs ≡ true → frames_fit (own_calls i (judged_calls go r cs)) ≡ true
unfolding rack_frames_fit frames_fit own_calls judged_calls own_call
frames_own go i [] r h = refl
frames_own go i (c ∷ cs) r h =
    let rest = frames_own go i cs (go r c).rack (and_right (are_bytes c.handed.frame) (rack_frames_fit cs) h) in
    let first = and_left (are_bytes c.handed.frame) (rack_frames_fit cs) h in
    let j = judgement (rack_rules r c) in
    let x = judged_call j c in
    let js = judged_calls go (go r c).rack cs in
    pick_case (λ (l : List Call). frames_fit l ≡ true) (has_call x i) (own_call x ∷ own_calls i js) (own_calls i js)
    (λ _. and_both _ _ (judged_case (λ (y : Call). are_bytes y.frame ≡ true) j _ c.handed (λ _ _. first) (λ _. first)) rest)
    (λ _. rest)

-- ---- one tag
pub rack_demand_3 : RackDemand3 rack_entry
rack_demand_3 r cs i h b f shut end =
    let own = own_of rack_entry r cs i in
    let a = demand_3 (device_at r i) own f.range f.size (frames_own rack_entry i cs r b) shut end in
    record { alone = a; ends = a.same ∙ ap (no_transfer (answers_alone (device_at r i) own)) (sym ((is_its_tags r cs b).tags i h)) }

pub rack_ends_alike : RackEndsAlike
rack_ends_alike r cs i h b f shut end =
    ends_alike (device_at r i) (own_of rack_entry r cs i) f.range f.size (frames_own rack_entry i cs r b) shut
    (ap (λ (d : Device). transfer_open d.tag) (sym ((is_its_tags r cs b).tags i h)) ∙ end)

-- ---- the answers of waiting tags
waited_is : (d : Device) (cs : List Call) → Fits d → frames_fit cs ≡ true → answers_alone d cs ≡ stand_in d cs
unfolding stand_in answers_waited
waited_is d cs f b =
    pick_case (λ (l : List CallAnswer). answers_alone d cs ≡ l) (not (transfer_open d.tag) && is_closed (waits_for d cs)) (answers_waited (waits_for d cs)) (answers_alone d cs)
    (λ h.
    let shut = not-true _ (and_left (not (transfer_open d.tag)) (is_closed (waits_for d cs)) h) in
    let end = and_right (not (transfer_open d.tag)) (is_closed (waits_for d cs)) h in
    sym (ap answers_waited (demand_3 d cs f.range f.size b shut end).same))
    (λ _. refl)

all_waited : (js : List JudgedCall) (i : ℕ) (ds : List Device) → AllFit ds → ((k : ℕ) → frames_fit (own_calls k js) ≡ true)
    → of_each answers_alone js i ds ≡ of_each stand_in js i ds
unfolding of_each AllFit
all_waited js i [] f b = refl
all_waited js i (d ∷ ds) f b =
    ap (λ (a : List CallAnswer). a ∷ of_each answers_alone js (suc i) ds) (waited_is d (own_calls i js) f.0 (b i))
    ∙ ap (λ (l : List (List CallAnswer)). stand_in d (own_calls i js) ∷ l) (all_waited js (suc i) ds f.1 b)

pub answers_as_waiting : AnswersAsWaiting rack_entry
answers_as_waiting r cs h b =
    (is_its_tags r cs b).answers
    ∙ ap (answers_made (judged_calls rack_entry r cs))
    (all_waited (judged_calls rack_entry r cs) 0 (devices r) (formed_fit r (formed r h)) (λ k. frames_own rack_entry k cs r b))
