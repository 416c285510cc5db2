-- What is claimed of a rack, of its bytes and numbers. Assumes nothing.
use mathlib.Core.Path.{◌≡◌, sym, ap, subst, ◌∙◌}
use mathlib.Core.Bool.{Bool, true, false, not, ◌&&◌}
use mathlib.Core.List.{List, [], ◌∷◌}
use Prim.Native.Nat.{ℕ, ◌*◌, ◌<◌}
use Rattle.std.specs.Prelude.{Err}
use native.Mathlib.Omega.{arith}
use lib.Dec.{leb, eqb}
use lib.ListN.{length, get_or, take}
use borrow.Author.Tests.{ne_eqb}
use Rattle.parts.specs.Pick.{pick}
use Rattle.parts.specs.Bytes.{are_bytes}
use Rattle.tag.specs.declared.Tag.{Tag}
use Rattle.state.specs.Layout.{state_bytes, bytes_of, tag_of}
use Rattle.rule_list.specs.RuleList.{any_holds, first_says}
use Rattle.refusals.specs.declared.Refusal.{Refusal}
use Rattle.refusals.specs.declared.Refusal.TheVariants.{MemoryLength, NoSuchTag}
use Rattle.refusals.specs.Call.{Call}
use Rattle.refusals.specs.Refusals.{number, refusal_rule, reply_rule, signal_rule, judgement, unless_refused, Judgement}
use Rattle.model.specs.Step.{transfer_open}
use Rattle.demand3.specs.Demand3.{is_closed}
use Rattle.calls.specs.Calls.{Device, entry, frames_fit, run_by}
use Rattle.library_demand3.specs.Calls.{exported, LibraryAnswer, LibraryRunResult, library_run_result, library_run}
use Rattle.library_demand3.specs.Claim.{in_numbers, Starts}
use Rattle.library_demand3.proofs.Lists.{Good, run_is as tag-run-is}
use Rattle.library_demand3.proofs.Demand3.{library_demand_3, library_ends_alike}
use Rattle.rack.specs.Rack.{Rack, rack_of, RackCall, rack_call, to_all, memory_size, memory_sizes, no_tag, device_at}
use Rattle.rack.specs.Rules.{rack_memory_rule, rack_range_rule, size_rule, uids_rule, WellFormed}
use Rattle.rack.specs.Step.{RackResult, rack_entry, rack_run}
use Rattle.rack.proofs.Unread.{number_unread}
use Rattle.wrong_racks.specs.Passed.{rack_frames_fit}
use Rattle.wrong_racks.proofs.Passed.{is_its_tags, only_radio_reported, formed, keeps_well_formed, frames_own, answers_as_waiting}
use Rattle.rack_states.specs.States.{states_of, tags_at, all_decode}
use Rattle.rack_states.proofs.States.{tags_number}
use Rattle.library_rack_refusals.specs.Rules.{rack_at, states_rule, all_decode_rule, rack_step_rules}
use Rattle.library_rack_refusals.proofs.Sizes.{sizes_at}
use Rattle.capi_rack.specs.RackInterface.{mask_of, RackCallResult, rack_call_result, rack_called, rack_step_call}
use Rattle.capi_rack.proofs.Racks.{Encoded, encoded}
use Rattle.capi_rack.proofs.Unrefused.{are_take, are_drop}
use Rattle.library_rack.specs.Calls.{LibraryRackStep, exported_rack, LibraryRackRunResult, library_rack_run}
use Rattle.library_rack.specs.Claims.{in_rack_numbers, RackStarts, LibraryRunsRack, looks_at_states, LibraryRackKeeps, LibraryKeepsRacks, OtherNumberRefused, LibraryNumberUnread, LibraryOnlyRadioReported, state_at, memory_at, calls_to, LibraryItsTags, LibraryIsItsTags, waits_at, LibraryTagAgrees, LibraryRackDemand3, LibraryRackEndsAlike, LibraryAnswersAsWaiting}
use Rattle.library_rack.proofs.States.{all_fit, starts_back, states_bytes, state_at_lem}
use Rattle.library_rack.proofs.Runs.{GoodRack, step_is, run_good, run_numbers, good, library_runs_rack}

-- ---- of every step whose lists are the rack's: from a start, a list of calls
module _ (step : LibraryRackStep) (runs : LibraryRunsRack step) (n : ℕ) (s m : List ℕ) (cs : List RackCall) (t : RackStarts n s m) (b : rack_frames_fit cs ≡ true) where
  abbrev left : LibraryRackRunResult
  left = library_rack_run step n s m cs

  abbrev before : Rack
  before = rack_at n s m

  abbrev after : Rack
  after = (rack_run rack_entry before cs).rack

  after_good : GoodRack after
  after_good = run_good cs before b (good n s m t)

  states_are : left.states ≡ states_of after.tags
  states_are = ap (λ (x : LibraryRackRunResult). x.states) (runs n s m cs t b)

  memory_is : left.memory ≡ after.memory
  memory_is = ap (λ (x : LibraryRackRunResult). x.memory) (runs n s m cs t b)

  number_is : length after.tags ≡ n
  number_is = (is_its_tags before cs b).number ∙ tags_number n s

  encoded_left : Encoded after.tags
  encoded_left = encoded after.tags (all_fit after.tags after_good.fits)

  -- the bytes decode to the rack that is left
  pub left_is : rack_at n left.states left.memory ≡ after
  left_is =
      ap (λ (x : List ℕ). rack_of (tags_at n x) left.memory) states_are
      ∙ ap (λ (k : ℕ). rack_of (tags_at k (states_of after.tags)) left.memory) (sym number_is)
      ∙ ap (λ (l : List Tag). rack_of l left.memory) encoded_left.back
      ∙ ap (rack_of after.tags) memory_is

  keeps : LibraryRackKeeps step n s m cs
  keeps = record {
    starts = record {
      states = ap (λ (x : List ℕ). are_bytes x) states_are ∙ states_bytes after.tags after_good.fits;
      long = ap length states_are ∙ encoded_left.long ∙ ap (λ (k : ℕ). k * state_bytes) number_is;
      whole = ap (all_decode n) states_are ∙ ap (λ (k : ℕ). all_decode k (states_of after.tags)) (sym number_is) ∙ encoded_left.whole;
      memory = ap (λ (x : List ℕ). are_bytes x) memory_is ∙ after_good.bytes;
    };
    numbers = λ h. ap (λ (x : LibraryRackRunResult). any_holds looks_at_states x.answers) (runs n s m cs t b) ∙ run_numbers cs before b (formed before h);
    formed = λ h. subst WellFormed (sym left_is) (keeps_well_formed before cs h b).formed;
    size = ap length memory_is ∙ (is_its_tags before cs b).size;
  }

  -- ---- tag i
  module _ (i : ℕ) (h : i < n) where
    abbrev d : Device
    d = device_at before i

    abbrev own : List Call
    own = calls_to n s m cs i

    own_fits : frames_fit own ≡ true
    own_fits = frames_own rack_entry i cs before b

    in_before : i < length before.tags
    in_before = subst (λ (k : ℕ). i < k) (sym (tags_number n s)) h

    -- its bytes are those of its tag
    pub state_is : state_at s i ≡ bytes_of d.tag
    unfolding device_at
    state_is = ap (λ (x : List ℕ). state_at x i) (sym (starts_back n s m t)) ∙ state_at_lem (tags_at n s) i (good n s m t).fits in_before

    state_left : state_at left.states i ≡ bytes_of (device_at after i).tag
    unfolding device_at
    state_left = ap (λ (x : List ℕ). state_at x i) states_are ∙ state_at_lem after.tags i after_good.fits (subst (λ (k : ℕ). i < k) (sym number_is) h)

    memory_left : memory_at n left.states left.memory i ≡ (device_at after i).memory
    memory_left = ap (λ (r : Rack). (device_at r i).memory) left_is

    fits_at : Good d
    unfolding device_at
    fits_at = record {
      fits = all_fit before.tags (good n s m t).fits i in_before;
      bytes = are_take (memory_size (get_or before.tags i no_tag)) _ (are_drop (memory_sizes (take i before.tags)) m t.memory);
    }

    -- the library's calls of one tag
    alone_is : library_run exported (state_at s i) (memory_at n s m i) own ≡ library_run_result (in_numbers (run_by entry d own).answers) (state_at left.states i) (memory_at n left.states left.memory i)
    alone_is =
        let e = (is_its_tags before cs b).tags i in_before in
        let answers = in_numbers (run_by entry d own).answers in
        ap (λ (x : List ℕ). library_run exported x d.memory own) state_is
        ∙ tag-run-is own d own_fits fits_at
        ∙ ap (λ (y : Device). library_run_result answers (bytes_of y.tag) y.memory) (sym e)
        ∙ ap (λ (x : List ℕ). library_run_result answers x (device_at after i).memory) (sym state_left)
        ∙ ap (library_run_result answers (state_at left.states i)) (sym memory_left)

    agrees : Starts (state_at s i) (memory_at n s m i) → is_closed (waits_at n s m cs i) ≡ true → LibraryTagAgrees step n s m cs i
    agrees start end =
        let a = library_demand_3 (state_at s i) (memory_at n s m i) own start own_fits end in
        record {
          alone = a;
          ends =
              sym a.same ∙ alone_is
              ∙ ap (λ (l : List LibraryAnswer). library_run_result l (state_at left.states i) (memory_at n left.states left.memory i))
              (ap (λ (x : LibraryRunResult). x.answers) (sym alone_is));
        }

  its_tags : LibraryItsTags step n s m cs
  its_tags = record {
    states = λ i h. ap (λ (x : LibraryRunResult). x.state) (sym (alone_is i h));
    memories = λ i h. ap (λ (x : LibraryRunResult). x.memory) (sym (alone_is i h));
    answers = ap (λ (x : LibraryRackRunResult). x.answers) (runs n s m cs t b) ∙ ap in_rack_numbers (is_its_tags before cs b).answers;
  }

-- ---- the exported function
pub library_keeps_racks : LibraryKeepsRacks exported_rack
library_keeps_racks n s m cs t b = keeps exported_rack library_runs_rack n s m cs t b

pub library_is_its_tags : LibraryIsItsTags exported_rack
library_is_its_tags n s m cs t b = its_tags exported_rack library_runs_rack n s m cs t b

pub library_rack_demand_3 : LibraryRackDemand3 exported_rack
library_rack_demand_3 n s m cs t b i h start end = agrees exported_rack library_runs_rack n s m cs t b i h start end

pub library_rack_ends_alike : LibraryRackEndsAlike
library_rack_ends_alike n s m cs t b i h start end =
    library_ends_alike (state_at s i) (memory_at n s m i) (calls_to n s m cs i) start (frames_own rack_entry i cs (rack_at n s m) b)
    (ap (λ (x : List ℕ). transfer_open (tag_of x)) (sym ((library_is_its_tags n s m cs t b).states i h)) ∙ end)

pub library_answers_as_waiting : LibraryAnswersAsWaiting exported_rack
library_answers_as_waiting n s m cs t b h =
    ap (λ (x : LibraryRackRunResult). x.answers) (library_runs_rack n s m cs t b) ∙ ap in_rack_numbers (answers_as_waiting (rack_at n s m) cs h b)

-- ---- another number of tags
memory_refused : (n other : ℕ) (s m : List ℕ) (c : RackCall) → length m ≡ memory_sizes (tags_at n s) → (other ≡ n → ⊥)
    → judgement (rack_step_rules other s m c) ≡ Err MemoryLength
unfolding judgement first_says pick
memory_refused n other s m c l h =
    let a = sizes_at n s in
    let b = sizes_at other s in
    let differs : eqb (length m) (memory_sizes (tags_at other s)) ≡ false = ne_eqb (length m) (memory_sizes (tags_at other s)) (λ e. h (omega (arith, a, b, e, l))) in
    rw differs

pub other_number_refused : OtherNumberRefused exported_rack
unfolding exported_rack rack_step_call unless_refused number
other_number_refused n other s m c l h =
    ap (λ (j : Judgement). unless_refused j (λ (x : Refusal). rack_call_result (number x) 0 s m c.handed.buffer) (rack_called (rack_entry (rack_at other s m) c)))
    (memory_refused n other s m c l h)

-- ---- one call
step_at : (n : ℕ) (s m : List ℕ) (c : RackCall) → RackStarts n s m → exported_rack n s m c ≡ rack_called (rack_entry (rack_at n s m) c)
step_at n s m c t =
    ap (λ (k : ℕ). exported_rack k s m c) (sym (tags_number n s))
    ∙ ap (λ (x : List ℕ). exported_rack (length (tags_at n s)) x m c) (sym (starts_back n s m t))
    ∙ step_is (rack_at n s m) c (good n s m t)

pub library_only_radio_reported : LibraryOnlyRadioReported exported_rack
unfolding mask_of
library_only_radio_reported n s m c t h =
    ap (λ (x : RackCallResult). x.answered) (step_at n s m c t) ∙ ap mask_of (only_radio_reported (rack_at n s m) c h)

-- the rule that reads the tag's number does so only where the signal goes to one
judged_unread : (n : ℕ) (s m : List ℕ) (c : Call) (i j : ℕ) → to_all c.code ≡ true
    → judgement (rack_step_rules n s m (rack_call c i)) ≡ judgement (rack_step_rules n s m (rack_call c j))
judged_unread n s m c i j all =
    let r = rack_at n s m in
    let named : (k : ℕ) → (not (to_all c.code) && leb (length r.tags) k) ≡ false = λ k. ap (λ (b : Bool). not b && leb (length r.tags) k) all in
    ap (λ (b : Bool). judgement (rack_memory_rule r ∷ reply_rule c ∷ signal_rule c ∷ states_rule n s ∷ all_decode_rule n s ∷ rack_range_rule r ∷ size_rule r ∷ refusal_rule b NoSuchTag ∷ uids_rule r ∷ []))
    (named i ∙ sym (named j))

pub library_number_unread : LibraryNumberUnread exported_rack
unfolding exported_rack rack_step_call
library_number_unread n s m c i j all =
    let r = rack_at n s m in
    let refuses : Refusal → RackCallResult = λ x. rack_call_result (number x) 0 s m c.buffer in
    ap (λ (q : Judgement). unless_refused q refuses (rack_called (rack_entry r (rack_call c i)))) (judged_unread n s m c i j all)
    ∙ ap (λ (e : RackResult). unless_refused (judgement (rack_step_rules n s m (rack_call c j))) refuses (rack_called e)) (number_unread entry r c i j all)
