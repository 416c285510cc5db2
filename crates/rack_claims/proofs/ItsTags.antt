-- The rack is its tags. Assumes nothing.
use mathlib.Core.Path.{◌≡◌, refl, sym, ap, subst, ◌∙◌}
use mathlib.Core.Bool.{true}
use mathlib.Core.List.{List, [], ◌∷◌}
use Prim.Native.Nat.{ℕ, ◌+◌, ◌<◌}
use Rattle.std.specs.Prelude.{Ok, Err}
use native.Mathlib.Nat.{zero-add}
use lib.ListN.{length, get_or}
use Rattle.parts.specs.Bytes.{are_bytes}
use Rattle.parts.proofs.Bools.{and_left, and_right}
use Rattle.refusals.specs.declared.Refusal.{Refusal}
use Rattle.refusals.specs.Refusals.{judgement, unless_refused, Judgement}
use Rattle.rack.specs.Passed.{Device, entry}
use Rattle.rack.specs.Rack.{Rack, RackCall, device_at, devices}
use Rattle.rack.specs.Rules.{rack_rules}
use Rattle.rack.specs.Step.{RackAnswer, together, RackResult, rack_entry, rack_run, turns_of, left_by}
use Rattle.rack.proofs.Parts.{number_apart, at_apart}
use Rattle.rack.proofs.Kept.{call_refused, call_says, call_number, call_leaves, call_size}
use Rattle.rack_claims.specs.Cut.{JudgedCall, judged_call, judged_calls, own_calls, of_each, later_of_each, answer_made, answers_made}
use Rattle.rack_claims.specs.ItsTags.{rack_frames_fit, answers_alone, IsItsTags}
use Rattle.rack_claims.proofs.Alone.{end_alone, next_served, later_served, end_served, later_refused, end_refused, end_none, end_at}

-- the rack r after judged calls js is r', with these answers
record SameBy (r r' : Rack) (answers : List RackAnswer) (js : List JudgedCall) : Type 0 where
  ends : devices r' ≡ of_each end_alone js 0 (devices r)
  number : length r'.tags ≡ length r.tags
  size : length r'.memory ≡ length r.memory
  made : answers ≡ answers_made js (of_each answers_alone js 0 (devices r))

abbrev Same : Rack → List RackCall → Type 0
Same r cs = SameBy r (rack_run rack_entry r cs).rack (rack_run rack_entry r cs).answers (judged_calls rack_entry r cs)

-- ---- a call and the rest: r, the call, and what the rest gives from where the call leaves the rack
module _ (r : Rack) (c : RackCall) (b : are_bytes c.handed.frame ≡ true) (r' : Rack) (answers : List RackAnswer) (js : List JudgedCall) (next : SameBy (rack_entry r c).rack r' answers js) where
  abbrev SameAfter : Judgement → Type 0
  SameAfter j = SameBy r r' ((rack_entry r c).says ∷ answers) (judged_call j c ∷ js)

  abbrev turns : List Device
  turns = left_by (turns_of entry c 0 (devices r))

  same_served : judgement (rack_rules r c) ≡ Ok tt → SameAfter (Ok tt)
  unfolding answers_made answer_made unless_refused
  same_served h =
      let after : devices (rack_entry r c).rack ≡ turns = call_leaves r c h b in
      record {
        ends = next.ends ∙ ap (λ (ds : List Device). of_each end_alone js 0 ds) after ∙ sym (end_served c js 0 (devices r));
        number = next.number ∙ call_number r c h;
        size = next.size ∙ call_size r c h b;
        made =
            ap (λ (l : List RackAnswer). (rack_entry r c).says ∷ l)
            (next.made
            ∙ ap (λ (ds : List Device). answers_made js (of_each answers_alone js 0 ds)) after
            ∙ ap (answers_made js) (sym (later_served c js 0 (devices r))))
            ∙ ap (λ (a : RackAnswer). a ∷ answers_made js (later_of_each (judged_call (Ok tt) c) 0 (of_each answers_alone (judged_call (Ok tt) c ∷ js) 0 (devices r))))
            (call_says r c h ∙ ap (together c) (sym (next_served c js 0 (devices r))));
      }

  same_refused : (x : Refusal) → judgement (rack_rules r c) ≡ Err x → SameAfter (Err x)
  unfolding answers_made answer_made unless_refused
  same_refused x h =
      let stays = call_refused r c x h in
      record {
        ends = next.ends ∙ ap (λ (e : RackResult). of_each end_alone js 0 (devices e.rack)) stays ∙ sym (end_refused x c js 0 (devices r));
        number = next.number ∙ ap (λ (e : RackResult). length e.rack.tags) stays;
        size = next.size ∙ ap (λ (e : RackResult). length e.rack.memory) stays;
        made =
            ap (λ (l : List RackAnswer). (rack_entry r c).says ∷ l)
            (next.made
            ∙ ap (λ (e : RackResult). answers_made js (of_each answers_alone js 0 (devices e.rack))) stays
            ∙ ap (answers_made js) (sym (later_refused x c js 0 (devices r))))
            ∙ ap (λ (a : RackAnswer). a ∷ answers_made js (later_of_each (judged_call (Err x) c) 0 (of_each answers_alone (judged_call (Err x) c ∷ js) 0 (devices r))))
            (ap (λ (e : RackResult). e.says) stays);
      }

  same_by : (j : Judgement) → judgement (rack_rules r c) ≡ j → SameAfter j
  same_by (Ok tt) h = same_served h
  same_by (Err x) h = same_refused x h

same : (cs : List RackCall) (r : Rack) → rack_frames_fit cs ≡ true → Same r cs
unfolding rack_run judged_calls answers_made rack_frames_fit
same [] r b = record { ends = end_none 0 (devices r); number = refl; size = refl; made = refl }
same (c ∷ cs) r b =
    let next = same cs (rack_entry r c).rack (and_right (are_bytes c.handed.frame) (rack_frames_fit cs) b) in
    same_by r c (and_left (are_bytes c.handed.frame) (rack_frames_fit cs) b) _ _ _ next (judgement (rack_rules r c)) refl

-- ---- the theorem
pub is_its_tags : IsItsTags rack_entry
is_its_tags r cs b =
    let s = same cs r b in
    let js = judged_calls rack_entry r cs in
    let r' = (rack_run rack_entry r cs).rack in
    let z = device_at r 0 in
    record {
      tags = λ i h.
          sym (at_apart i r'.tags r'.memory z (subst (λ (n : ℕ). i < n) (sym s.number) h))
          ∙ ap (λ (ds : List Device). get_or ds i z) s.ends
          ∙ end_at i 0 js (devices r) z (subst (λ (n : ℕ). i < n) (sym (number_apart r.tags r.memory)) h)
          ∙ ap (λ (d : Device). end_alone d (own_calls (0 + i) js)) (at_apart i r.tags r.memory z h)
          ∙ ap (λ (k : ℕ). end_alone (device_at r i) (own_calls k js)) (zero-add i);
      number = s.number;
      size = s.size;
      answers = s.made;
    }
