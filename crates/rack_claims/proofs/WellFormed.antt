-- A well-formed rack stays so, and refusals 1, 4, 5 and 7 never come up. Assumes nothing.
use mathlib.Core.Path.{◌≡◌, refl, sym, ap, subst, ◌∙◌}
use mathlib.Core.Bool.{Bool, true, false, not, ◌||◌}
use mathlib.Core.List.{List, [], ◌∷◌}
use Prim.Native.Nat.{ℕ, suc}
use lib.Dec.{eqb, ltb}
use lib.ListN.{length}
use borrow.Author.Tests.{eqb-true, eq-eqb, not-false}
use Rattle.std.specs.Prelude.{Ok, Err}
use Rattle.parts.specs.Pick.{pick}
use Rattle.parts.specs.Bytes.{are_bytes}
use Rattle.parts.proofs.Picks.{pick_case}
use Rattle.parts.proofs.Bools.{and_left, and_right}
use Rattle.rule_list.specs.RuleList.{any_holds, first_says}
use Rattle.keys.specs.declared.Uid.{Uid}
use Rattle.keys.specs.Keys.{same_uid}
use Rattle.refusals.specs.Refusals.{number, RefusalRule, reply_rule, signal_rule, judgement, unless_refused, Judgement}
use Rattle.refusals.proofs.Laws.{NoneApplies, none_applies, no_refusal, refused_by}
use Rattle.rack.specs.Passed.{Device, DeviceResult, entry}
use Rattle.rack.proofs.Passed.{Fits}
use Rattle.demand3.proofs.OneCall.{call_stays}
use Rattle.rack.specs.Rack.{Rack, RackCall, memory_sizes, devices, tags_of, goes_to}
use Rattle.rack.specs.Rules.{all_in_range, has_uid, equal_uids, most_tags, rack_alone_rules, WellFormed, looks_at_rack, named_rule, rack_rules}
use Rattle.rack.specs.Step.{unreached, turn_of, turns_of, left_by, RackResult, rack_acts, rack_entry, rack_run}
use Rattle.rack.proofs.Parts.{tags_apart, sized_apart, size_racked}
use Rattle.rack.proofs.Fits.{AllFit, all_fit, all_sized, all_in_range_lem}
use Rattle.rack.proofs.Kept.{call_refused, call_acts, call_number, fit_left, call_leaves}
use Rattle.rack_claims.specs.Cut.{judged_call, judged_calls}
use Rattle.rack_claims.specs.ItsTags.{rack_frames_fit, refused_by_rack, StaysWellFormed, KeepsWellFormed}

-- ---- the rules one by one
pub record Formed (r : Rack) : Type 0 where
  pub size : length r.memory ≡ memory_sizes r.tags
  pub range : all_in_range (devices r) ≡ true
  pub number : (eqb (length r.tags) 0 || ltb most_tags (length r.tags)) ≡ false
  pub uids : equal_uids r.tags ≡ false

pub formed : (r : Rack) → WellFormed r → Formed r
unfolding NoneApplies
formed r h =
    let p = none_applies (rack_alone_rules r) h in
    record { size = eqb-true _ _ (not-false _ p.0); range = not-false _ p.1.0; number = p.1.1.0; uids = p.1.1.1.0 }

pub well_formed : (r : Rack) → Formed r → WellFormed r
unfolding NoneApplies
well_formed r f = no_refusal (rack_alone_rules r) (ap not (eq-eqb _ _ f.size), (ap not f.range, (f.number, (f.uids, tt))))

pub formed_fit : (r : Rack) → Formed r → AllFit (devices r)
formed_fit r f = all_fit (devices r) (sized_apart r.tags r.memory f.size) f.range

-- ---- then a call is judged by what it hands in and the tag that it names
abbrev pub call_rules : Rack → RackCall → List RefusalRule
call_rules r c = reply_rule c.handed ∷ signal_rule c.handed ∷ named_rule r c ∷ []

pub formed_judged : (r : Rack) (c : RackCall) → Formed r → judgement (rack_rules r c) ≡ judgement (call_rules r c)
unfolding judgement first_says pick
formed_judged r c f = rw (eq-eqb (length r.memory) (memory_sizes r.tags) f.size, f.range, f.number, f.uids)

-- none of these is a refusal of the rack's
call_judged : (r : Rack) (c : RackCall) → Formed r → refused_by_rack (judged_call (judgement (rack_rules r c)) c) ≡ false
unfolding looks_at_rack number any_holds unless_refused
call_judged r c f =
    ap (λ (j : Judgement). unless_refused j looks_at_rack false) (formed_judged r c f) ∙ by (judgement (call_rules r c)) refl
  where
    by : (j : Judgement) → judgement (call_rules r c) ≡ j → unless_refused j looks_at_rack false ≡ false
    by (Ok tt) h = refl
    by (Err x) h = refused_by looks_at_rack (call_rules r c) x refl h

-- ---- the UIDs stay
turn_uid : (c : RackCall) (i : ℕ) (d : Device) → Fits d → (turn_of entry c i d).device.tag.uid ≡ d.tag.uid
unfolding turn_of
turn_uid c i d f =
    pick_case (λ (e : DeviceResult). e.device.tag.uid ≡ d.tag.uid) (goes_to c i) (entry d c.handed) (unreached c.handed d)
    (λ _. (call_stays d c.handed f).uid) (λ _. refl)

has_kept : (u : Uid) (c : RackCall) (i : ℕ) (ds : List Device) → AllFit ds → has_uid u (tags_of (left_by (turns_of entry c i ds))) ≡ has_uid u (tags_of ds)
unfolding has_uid tags_of left_by turns_of AllFit
has_kept u c i [] f = refl
has_kept u c i (d ∷ ds) f =
    ap (λ (x : Uid). same_uid u x || has_uid u (tags_of (left_by (turns_of entry c (suc i) ds)))) (turn_uid c i d f.0)
    ∙ ap (λ (b : Bool). same_uid u d.tag.uid || b) (has_kept u c (suc i) ds f.1)

uids_kept : (c : RackCall) (i : ℕ) (ds : List Device) → AllFit ds → equal_uids (tags_of (left_by (turns_of entry c i ds))) ≡ equal_uids (tags_of ds)
unfolding equal_uids tags_of left_by turns_of AllFit
uids_kept c i [] f = refl
uids_kept c i (d ∷ ds) f =
    let rest = tags_of (left_by (turns_of entry c (suc i) ds)) in
    ap (λ (u : Uid). has_uid u rest || equal_uids rest) (turn_uid c i d f.0)
    ∙ ap (λ (b : Bool). b || equal_uids rest) (has_kept d.tag.uid c (suc i) ds f.1)
    ∙ ap (λ (b : Bool). has_uid d.tag.uid (tags_of ds) || b) (uids_kept c (suc i) ds f.1)

-- ---- so a call leaves a well-formed rack well-formed
served_formed : (r : Rack) (c : RackCall) → are_bytes c.handed.frame ≡ true → judgement (rack_rules r c) ≡ Ok tt → Formed r → Formed (rack_entry r c).rack
unfolding rack_acts
served_formed r c b h f =
    let left = left_by (turns_of entry c 0 (devices r)) in
    let fit = fit_left r c h b in
    record {
      size = ap (λ (e : RackResult). length e.rack.memory) (call_acts r c h) ∙ size_racked left (all_sized left fit) ∙ sym (ap (λ (e : RackResult). memory_sizes e.rack.tags) (call_acts r c h));
      range = ap all_in_range (call_leaves r c h b) ∙ all_in_range_lem left fit;
      number = ap (λ (n : ℕ). eqb n 0 || ltb most_tags n) (call_number r c h) ∙ f.number;
      uids =
          ap (λ (e : RackResult). equal_uids e.rack.tags) (call_acts r c h)
          ∙ uids_kept c 0 (devices r) (formed_fit r f)
          ∙ ap equal_uids (tags_apart r.tags r.memory)
          ∙ f.uids;
    }

pub next_formed : (r : Rack) (c : RackCall) → are_bytes c.handed.frame ≡ true → Formed r → Formed (rack_entry r c).rack
next_formed r c b f = by (judgement (rack_rules r c)) refl
  where
    by : (j : Judgement) → judgement (rack_rules r c) ≡ j → Formed (rack_entry r c).rack
    by (Ok tt) h = served_formed r c b h f
    by (Err x) h = subst (λ (e : RackResult). Formed e.rack) (sym (call_refused r c x h)) f

stays : (cs : List RackCall) (r : Rack) → Formed r → rack_frames_fit cs ≡ true → StaysWellFormed rack_entry r cs
unfolding rack_run judged_calls rack_frames_fit any_holds
stays [] r f b = record { formed = well_formed r f; judged = refl }
stays (c ∷ cs) r f b =
    let next = stays cs (rack_entry r c).rack (next_formed r c (and_left (are_bytes c.handed.frame) (rack_frames_fit cs) b) f) (and_right (are_bytes c.handed.frame) (rack_frames_fit cs) b) in
    record {
      formed = next.formed;
      judged = ap (λ (x : Bool). x || any_holds refused_by_rack (judged_calls rack_entry (rack_entry r c).rack cs)) (call_judged r c f) ∙ next.judged;
    }

pub keeps_well_formed : KeepsWellFormed rack_entry
keeps_well_formed r cs h b = stays cs r (formed r h) b
