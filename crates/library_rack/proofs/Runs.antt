-- Lists of the library's rack calls are lists of the rack's. Assumes nothing.
use mathlib.Core.Path.{◌≡◌, refl, sym, ap, subst, ◌∙◌}
use mathlib.Core.Bool.{Bool, true, false, ◌||◌, false≢true}
use mathlib.Core.List.{List, [], ◌∷◌}
use Prim.Native.Nat.{ℕ, suc, ◌≤◌}
use Rattle.std.specs.Prelude.{Ok, Err}
use native.Mathlib.Omega.{arith}
use lib.Dec.{ltb}
use borrow.Author.Tests.{ne_eqb, ltb-true, ltb-false}
use lib.ListN.{length, drop}
use Rattle.parts.specs.Bytes.{are_bytes}
use Rattle.parts.proofs.Below.{are_append}
use Rattle.parts.proofs.Bools.{and_left, and_right}
use Rattle.parts.proofs.Picks.{pick_case}
use Rattle.tag.specs.declared.Tag.{Tag}
use Rattle.rule_list.specs.RuleList.{any_holds}
use Rattle.refusals.specs.declared.Refusal.{Refusal}
use Rattle.refusals.specs.Refusals.{number, judgement, Judgement}
use Rattle.refusals.proofs.Laws.{refused_by}
use Rattle.model.specs.declared.Answer.{Answer}
use Rattle.model.specs.Step.{is_refused}
use Rattle.library_demand3.specs.Passed.{answer_number}
use Rattle.library_demand3.proofs.Passed.{number_refused}
use Rattle.calls.specs.Calls.{Device, DeviceResult, entry}
use Rattle.library_demand3.proofs.Lists.{Good, good_next}
use Rattle.rack.specs.Rack.{Rack, rack_of, RackCall, memory_size, devices_of, devices, tags_of, memories_of, goes_to}
use Rattle.rack.specs.Rules.{rack_rules}
use Rattle.rack.specs.Claims.{is_among}
use Rattle.rack.specs.Step.{unreached, turn_of, turns_of, left_by, RackResult, rack_acts, rack_entry, rack_run}
use Rattle.rack.proofs.Kept.{call_refused, call_acts, call_number}
use Rattle.wrong_racks.specs.Passed.{rack_frames_fit}
use Rattle.wrong_racks.proofs.Passed.{Formed, call_rules, formed_judged, next_formed}
use Rattle.rack_states.specs.States.{states_of, tags_at}
use Rattle.capi_rack.specs.RackInterface.{RackCallResult, rack_called}
use Rattle.capi_rack.proofs.Racks.{steps_the_rack}
use Rattle.capi_rack.proofs.Says.{rack_served}
use Rattle.capi_rack.proofs.Unrefused.{are_take, are_drop}
use Rattle.library_rack.specs.Calls.{exported_rack, library_rack_answer, rack_answer_by, LibraryRackRunResult, library_rack_run_result, library_rack_run}
use Rattle.library_rack.specs.Claims.{in_rack_number, in_rack_numbers, in_rack_bytes, RackStarts, LibraryRunsRack, state_refusals, looks_at_states}
use Rattle.rack_states.proofs.States.{tags_number}
use Rattle.library_rack.proofs.States.{EachFits, all_fit, tags_fit, starts_back}

-- ---- what goes from call to call: each tag's numbers fit their types, and the memory's bytes are bytes
unfoldable AllGood : List Device → Type 0
AllGood [] = Unit {0}
AllGood (d ∷ ds) = Good d × AllGood ds

pub record GoodRack (r : Rack) : Type 0 where
  pub fits : EachFits r.tags
  pub bytes : are_bytes r.memory ≡ true

good_apart : (ts : List Tag) (m : List ℕ) → EachFits ts → are_bytes m ≡ true → AllGood (devices_of ts m)
unfolding AllGood EachFits devices_of
good_apart [] m f b = tt
good_apart (t ∷ ts) m f b = (
  record { fits = f.0; bytes = are_take (memory_size t) m b },
  good_apart ts (drop (memory_size t) m) f.1 (are_drop (memory_size t) m b),
)

good_turns : (c : RackCall) (i : ℕ) (ds : List Device) → are_bytes c.handed.frame ≡ true → AllGood ds → AllGood (left_by (turns_of entry c i ds))
unfolding AllGood left_by turns_of turn_of
good_turns c i [] b g = tt
good_turns c i (d ∷ ds) b g = (
  pick_case (λ (e : DeviceResult). Good e.device) (goes_to c i) (entry d c.handed) (unreached c.handed d) (λ _. good_next d c.handed b g.0) (λ _. g.0),
  good_turns c (suc i) ds b g.1,
)

good_tags : (ds : List Device) → AllGood ds → EachFits (tags_of ds)
unfolding AllGood EachFits tags_of
good_tags [] g = tt
good_tags (d ∷ ds) g = (g.0.fits, good_tags ds g.1)

good_memories : (ds : List Device) → AllGood ds → are_bytes (memories_of ds) ≡ true
unfolding AllGood memories_of are_bytes
good_memories [] g = refl
good_memories (d ∷ ds) g = are_append d.memory (memories_of ds) g.0.bytes (good_memories ds g.1)

served_good : (r : Rack) (c : RackCall) → are_bytes c.handed.frame ≡ true → GoodRack r → GoodRack (rack_acts entry r c).rack
unfolding rack_acts
served_good r c b g =
    let left = good_turns c 0 (devices r) b (good_apart r.tags r.memory g.fits g.bytes) in
    record { fits = good_tags (left_by (turns_of entry c 0 (devices r))) left; bytes = good_memories (left_by (turns_of entry c 0 (devices r))) left }

-- ---- one call
pub rack_next : (r : Rack) (c : RackCall) → are_bytes c.handed.frame ≡ true → GoodRack r → GoodRack (rack_entry r c).rack
rack_next r c b g = by (judgement (rack_rules r c)) refl
  where
    by : (j : Judgement) → judgement (rack_rules r c) ≡ j → GoodRack (rack_entry r c).rack
    by (Ok tt) h = subst (λ (e : RackResult). GoodRack e.rack) (sym (call_acts r c h)) (served_good r c b g)
    by (Err x) h = subst (λ (e : RackResult). GoodRack e.rack) (sym (call_refused r c x h)) g

same_number : (r : Rack) (c : RackCall) → length (rack_entry r c).rack.tags ≡ length r.tags
same_number r c = by (judgement (rack_rules r c)) refl
  where
    by : (j : Judgement) → judgement (rack_rules r c) ≡ j → length (rack_entry r c).rack.tags ≡ length r.tags
    by (Ok tt) h = call_number r c h
    by (Err x) h = ap (λ (e : RackResult). length e.rack.tags) (call_refused r c x h)

pub step_is : (r : Rack) (c : RackCall) → GoodRack r → exported_rack (length r.tags) (states_of r.tags) r.memory c ≡ rack_called (rack_entry r c)
unfolding exported_rack
step_is r c g = steps_the_rack r.tags r.memory c (all_fit r.tags g.fits)

-- ---- a list
abbrev then : ℕ → List RackCall → RackCallResult → LibraryRackRunResult
then n cs x =
    let rest = library_rack_run exported_rack n x.states x.memory cs in
    library_rack_run_result (rack_answer_by x ∷ rest.answers) rest.states rest.memory

pub run_is : (cs : List RackCall) (r : Rack) → rack_frames_fit cs ≡ true → GoodRack r
    → library_rack_run exported_rack (length r.tags) (states_of r.tags) r.memory cs ≡ in_rack_bytes (rack_run rack_entry r cs)
unfolding library_rack_run rack_run in_rack_numbers rack_frames_fit
run_is [] r b g = refl
run_is (c ∷ cs) r b g =
    let e = rack_entry r c in
    let first = and_left (are_bytes c.handed.frame) (rack_frames_fit cs) b in
    let rest = and_right (are_bytes c.handed.frame) (rack_frames_fit cs) b in
    ap (then (length r.tags) cs) (step_is r c g)
    ∙ ap (λ (n : ℕ). then n cs (rack_called e)) (sym (same_number r c))
    ∙ ap (λ (x : LibraryRackRunResult). library_rack_run_result (in_rack_number e.says ∷ x.answers) x.states x.memory) (run_is cs e.rack rest (rack_next r c first g))

pub run_good : (cs : List RackCall) (r : Rack) → rack_frames_fit cs ≡ true → GoodRack r → GoodRack (rack_run rack_entry r cs).rack
unfolding rack_run rack_frames_fit
run_good [] r b g = g
run_good (c ∷ cs) r b g =
    run_good cs (rack_entry r c).rack (and_right (are_bytes c.handed.frame) (rack_frames_fit cs) b)
    (rack_next r c (and_left (are_bytes c.handed.frame) (rack_frames_fit cs) b) g)

-- ---- from a start
pub good : (n : ℕ) (s m : List ℕ) → RackStarts n s m → GoodRack (rack_of (tags_at n s) m)
good n s m t = record { fits = tags_fit n s t.states; bytes = t.memory }

pub library_runs_rack : LibraryRunsRack exported_rack
library_runs_rack n s m cs t b =
    ap (λ (k : ℕ). library_rack_run exported_rack k s m cs) (sym (tags_number n s))
    ∙ ap (λ (x : List ℕ). library_rack_run exported_rack (length (tags_at n s)) x m cs) (sym (starts_back n s m t))
    ∙ run_is cs (rack_of (tags_at n s) m) b (good n s m t)

-- ---- the numbers of a list that starts well-formed
above_none : (l : List ℕ) (n : ℕ) → are_bytes l ≡ true → 0x100 ≤ n → is_among n l ≡ false
unfolding are_bytes is_among
above_none [] n b h = refl
above_none (x ∷ l) n b h =
    let few = ltb-true x 256 (and_left (ltb x 256) (are_bytes l) b) in
    ap (λ (y : Bool). y || is_among n l) (ne_eqb x n (λ e. absurd (omega (arith, few, h, e)))) ∙ above_none l n (and_right (ltb x 256) (are_bytes l) b) h

served_above : (r : Rack) (c : RackCall) → judgement (rack_rules r c) ≡ Ok tt → 0x100 ≤ answer_number (rack_entry r c).says.says.answer
served_above r c h =
    let a = (rack_entry r c).says.says.answer in
    let served : is_refused a ≡ false = ap (λ (e : RackResult). is_refused e.says.says.answer) (call_acts r c h) ∙ rack_served r c h in
    by a served (ltb (answer_number a) 0x100) refl
  where
    by : (a : Answer) → is_refused a ≡ false → (b : Bool) → ltb (answer_number a) 0x100 ≡ b → 0x100 ≤ answer_number a
    by a s true q = absurd (false≢true (sym s ∙ number_refused a (ltb-true (answer_number a) 0x100 q)))
    by a s false q = ltb-false (answer_number a) 0x100 q

first_number : (r : Rack) (c : RackCall) → Formed r → looks_at_states (in_rack_number (rack_entry r c).says) ≡ false
unfolding looks_at_states is_among answer_number number any_holds are_bytes
first_number r c f = by (judgement (rack_rules r c)) refl
  where
    by : (j : Judgement) → judgement (rack_rules r c) ≡ j → looks_at_states (in_rack_number (rack_entry r c).says) ≡ false
    by (Ok tt) h = above_none state_refusals (answer_number (rack_entry r c).says.says.answer) refl (served_above r c h)
    by (Err x) h =
        ap (λ (e : RackResult). looks_at_states (in_rack_number e.says)) (call_refused r c x h)
        ∙ refused_by (λ (y : Refusal). looks_at_states (library_rack_answer (number y) 0 [])) (call_rules r c) x refl (sym (formed_judged r c f) ∙ h)

pub run_numbers : (cs : List RackCall) (r : Rack) → rack_frames_fit cs ≡ true → Formed r → any_holds looks_at_states (in_rack_numbers (rack_run rack_entry r cs).answers) ≡ false
unfolding rack_run rack_frames_fit in_rack_numbers any_holds
run_numbers [] r b f = refl
run_numbers (c ∷ cs) r b f =
    let e = rack_entry r c in
    ap (λ (x : Bool). x || any_holds looks_at_states (in_rack_numbers (rack_run rack_entry e.rack cs).answers)) (first_number r c f)
    ∙ run_numbers cs e.rack (and_right (are_bytes c.handed.frame) (rack_frames_fit cs) b)
    (next_formed r c (and_left (are_bytes c.handed.frame) (rack_frames_fit cs) b) f)
