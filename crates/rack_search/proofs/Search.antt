-- The search finds the first slot in which two tags answer. Assumes nothing.
use mathlib.Core.Path.{◌≡◌, refl, sym, ◌∙◌, ap, subst}
use mathlib.Core.Bool.{Bool, true, false}
use mathlib.Core.List.{List, [], ◌∷◌}
use Prim.Native.Nat.{ℕ, zero, suc, ◌+◌, ◌<◌, ◌≤◌}
use Rattle.std.specs.Prelude.{Ok, Err, Some, None}
use native.Mathlib.Omega.{arith}
use native.Mathlib.Nat.{zero-add}
use lib.Dec.{ltb}
use lib.ListN.{length}
use borrow.Author.Tests.{eqb-true, ltb-false, not-false}
use Rattle.parts.specs.Pick.{pick}
use Rattle.parts.specs.Bytes.{are_bytes}
use Rattle.parts.proofs.Picks.{pick_map, pick_true, pick_false}
use Rattle.tag.specs.Layout.{reply_bytes}
use Rattle.signal_table.proofs.Laws.{frame_known}
use Rattle.refusals.specs.declared.Refusal.{Refusal}
use Rattle.refusals.specs.Refusals.{number, judgement, unless_refused, Judgement}
use Rattle.refusals.proofs.Laws.{NoneApplies, none_applies}
use Rattle.rack_claims.specs.Passed.{Device, Rack, RackCall, devices, to_all, rack_rules, rack_entry, rack_run, refusal_numbers}
use Rattle.rack_claims.proofs.WellFormed.{Formed, next_formed}
use Rattle.rack_search.specs.Search.{sends_frame, sends_end, sends_next, opens_sixteen, slot_count, SearchResult, search_result, collides, look, search_rules, search_of, search_entry, SearchAnswer}
use Rattle.rack_search.specs.Claims.{answers_in, how_many, tags_in, sent_calls, slots_opened, buffer_after, Searches, SearchRefusalsInOrder}
use Rattle.rack_search.proofs.Sent.{opened, From, look_left}
use Rattle.rack_search.proofs.Count.{first_from, first_alike, Tells, first_tells, tells_slot, slot_told, tells_none, none_told}
use Rattle.rack_search.proofs.OneTag.{waits_in, end_known, single, past, frame_opens, frame_waits, end_turns, end_later}
use Rattle.rack_search.proofs.Slots.{collides_is, counts_next, room_left, unrefused}

-- ---- one slot, and the rest
look_next : (n k : ℕ) (r : Rack) (c : RackCall) (count : ℕ → ℕ) → collides (rack_entry r c) ≡ ltb 1 (count k)
    → (look rack_entry n (suc k) (rack_entry r c).rack (sends_next (rack_entry r c))).answer ≡ first_from n (suc k) count
    → (look rack_entry (suc n) k r c).answer ≡ first_from (suc n) k count
unfolding look first_from
look_next n k r c count e q =
    pick_map (λ (l : SearchResult). l.answer) (collides (rack_entry r c)) _ _
    ∙ ap (λ (b : Bool). pick b (Ok (Some k)) (look rack_entry n (suc k) (rack_entry r c).rack (sends_next (rack_entry r c))).answer) e
    ∙ ap (λ (x : SearchAnswer). pick (ltb 1 (count k)) (Ok (Some k)) x) q

look_none : (k : ℕ) (r : Rack) (c : RackCall) (count : ℕ → ℕ) → (look rack_entry 0 k r c).answer ≡ first_from 0 k count
unfolding look first_from
look_none k r c count = refl

end_to_all : to_all 9 ≡ true
unfolding to_all
end_to_all = refl

frame_to_all : to_all 8 ≡ true
unfolding to_all
frame_to_all = refl

-- ---- ends-of-frame, from the counts that the tags have
look_ends : (n k : ℕ) (r : Rack) (o : List ℕ) → Formed r → reply_bytes ≤ length o
    → (look rack_entry n k r (sends_end o)).answer ≡ first_from n k (λ j. how_many (waits_in k j) (devices r))
unfolding are_bytes
look_ends zero k r o f b = look_none k r (sends_end o) _
look_ends (suc n) k r o f b =
    let c = sends_end o in
    let h = unrefused c end_to_all r f b end_known in
    let e = rack_entry r c in
    let room = room_left c end_to_all r h in
    look_next n k r c (λ j. how_many (waits_in k j) (devices r)) (collides_is c end_to_all r h (waits_in k k) (λ d fit. end_turns d o fit b k))
    (look_ends n (suc k) e.rack e.says.says.buffer (next_formed r c refl f) (omega (arith, room, b))
    ∙ first_alike n (suc k) _ _ (λ j l. counts_next c end_to_all r h refl (waits_in k j) (waits_in (suc k) j) (λ d fit. end_later d o fit b k j l)))

-- ---- the frame
module _ (r : Rack) (o f : List ℕ) (bytes : are_bytes f ≡ true) (formed : Formed r) (b : reply_bytes ≤ length o) where
  abbrev c : RackCall
  c = sends_frame o f

  abbrev count : ℕ → ℕ
  count j = tags_in f j r

  unrefused_frame : judgement (rack_rules r c) ≡ Ok tt
  unrefused_frame = unrefused c frame_to_all r formed b frame_known

  first_slot : collides (rack_entry r c) ≡ ltb 1 (count 0)
  first_slot = collides_is c frame_to_all r unrefused_frame (answers_in f 0) (λ d fit. frame_opens d o fit b f)

  later_slots : opens_sixteen f ≡ true → (j : ℕ) → 1 ≤ j → how_many (waits_in 1 j) (devices (rack_entry r c).rack) ≡ count j
  later_slots x zero l = absurd (omega arith)
  later_slots x (suc j) l = counts_next c frame_to_all r unrefused_frame bytes (answers_in f (suc j)) (waits_in 1 (suc j)) (λ d fit. frame_waits d o fit b f j x)

  look_sixteen : (n : ℕ) → opens_sixteen f ≡ true → (look rack_entry (suc n) 0 r c).answer ≡ first_from (suc n) 0 count
  look_sixteen n x =
      let e = rack_entry r c in
      let room = room_left c frame_to_all r unrefused_frame in
      look_next n 0 r c count first_slot
      (look_ends n 1 e.rack e.says.says.buffer (next_formed r c bytes formed) (omega (arith, room, b))
      ∙ first_alike n 1 _ _ (later_slots x))

  look_single : (look rack_entry 1 0 r c).answer ≡ first_from 1 0 count
  look_single = look_next 0 0 r c count first_slot (look_none 1 (rack_entry r c).rack (sends_next (rack_entry r c)) count)

  -- ---- no tag answers in other slots
  none_answer : (test : Device → Bool) → ((d : Device) → test d ≡ false) → (ds : List Device) → how_many test ds ≡ 0
  unfolding how_many pick
  none_answer test h [] = refl
  none_answer test h (d ∷ ds) = ap (λ (x : Bool). pick x 1 0 + how_many test ds) (h d) ∙ zero-add (how_many test ds) ∙ none_answer test h ds

  past_sixteen : (j : ℕ) → 16 ≤ j → count j < 2
  past_sixteen j l = let e = none_answer (answers_in f j) (λ d. past d f j l) (devices r) in omega (arith, e)

  past_single : opens_sixteen f ≡ false → (j : ℕ) → 1 ≤ j → count j < 2
  past_single x zero l = absurd (omega arith)
  past_single x (suc j) l = let e = none_answer (answers_in f (suc j)) (λ d. single d f j x) (devices r) in omega (arith, e)

  -- ---- so the answer tells it
  look_tells : Tells count (look rack_entry (slot_count f) 0 r c).answer
  look_tells = by (opens_sixteen f) refl
    where
      by : (x : Bool) → opens_sixteen f ≡ x → Tells count (look rack_entry (pick (opens_sixteen f) 16 1) 0 r c).answer
      by true x =
          subst (λ (n : ℕ). Tells count (look rack_entry n 0 r c).answer) (pick_true 16 1 16 (opens_sixteen f) x refl)
          (subst (Tells count) (sym (look_sixteen 15 x)) (first_tells 16 0 count (λ j l. absurd (omega arith)) (λ j l. past_sixteen j (omega arith))))
      by false x =
          subst (λ (n : ℕ). Tells count (look rack_entry n 0 r c).answer) (pick_false 16 1 1 (opens_sixteen f) x refl)
          (subst (Tells count) (sym look_single) (first_tells 1 0 count (λ j l. absurd (omega arith)) (λ j l. past_single x j (omega arith))))

-- ---- what is refused
searched_as : (r : Rack) (o f : List ℕ) (j : Judgement) → judgement (search_rules r o) ≡ j
    → search_entry r o f ≡ unless_refused j (λ (x : Refusal). search_result (Err x) r o) (look rack_entry (slot_count f) 0 r (sends_frame o f))
unfolding search_of
searched_as r o f j h = ap (λ (j : Judgement). unless_refused j (λ (x : Refusal). search_result (Err x) r o) (look rack_entry (slot_count f) 0 r (sends_frame o f))) h

pub search_refused : (r : Rack) (o f : List ℕ) (x : Refusal) → judgement (search_rules r o) ≡ Err x → search_entry r o f ≡ search_result (Err x) r o
unfolding unless_refused
search_refused r o f x h = searched_as r o f (Err x) h

pub search_looks : (r : Rack) (o f : List ℕ) → judgement (search_rules r o) ≡ Ok tt → search_entry r o f ≡ look rack_entry (slot_count f) 0 r (sends_frame o f)
unfolding unless_refused
search_looks r o f h = searched_as r o f (Ok tt) h

unfoldable judgement_in : SearchAnswer → Judgement
judgement_in (Err x) = Err x
judgement_in (Ok None) = (Ok tt)
judgement_in (Ok (Some k)) = (Ok tt)

from_served : (k : ℕ) (a : SearchAnswer) → From k a → judgement_in a ≡ Ok tt
unfolding From judgement_in
from_served k (Err x) h = absurd h
from_served k (Ok None) h = refl
from_served k (Ok (Some j)) h = refl

answer_judged : (r : Rack) (o f : List ℕ) → judgement_in (search_entry r o f).answer ≡ judgement (search_rules r o)
unfolding judgement_in
answer_judged r o f = by (judgement (search_rules r o)) refl
  where
    by : (j : Judgement) → judgement (search_rules r o) ≡ j → judgement_in (search_entry r o f).answer ≡ judgement (search_rules r o)
    by (Ok tt) h =
        ap (λ (l : SearchResult). judgement_in l.answer) (search_looks r o f h)
        ∙ from_served 0 _ (look_left rack_entry (slot_count f) 0 r (sends_frame o f)).from ∙ sym h
    by (Err x) h = ap (λ (l : SearchResult). judgement_in l.answer) (search_refused r o f x h) ∙ sym h

-- ---- what is found
pub formed_of : (r : Rack) (o : List ℕ) → judgement (search_rules r o) ≡ Ok tt → Formed r × (reply_bytes ≤ length o)
unfolding NoneApplies
formed_of r o h =
    let p = none_applies (search_rules r o) h in (
      record { size = eqb-true _ _ (not-false _ p.0); range = not-false _ p.1.1.0; number = p.1.1.1.0; uids = p.1.1.1.1.0 },
      ltb-false _ _ p.1.0,
    )

tells : (r : Rack) (o f : List ℕ) → are_bytes f ≡ true → judgement (search_rules r o) ≡ Ok tt → Tells (λ j. tags_in f j r) (search_entry r o f).answer
tells r o f b h =
    let p = formed_of r o h in
    subst (λ (l : SearchResult). Tells (λ j. tags_in f j r) l.answer) (sym (search_looks r o f h)) (look_tells r o f b p.0 p.1)

-- ---- what is left
opened_all : (f : List ℕ) (a : SearchAnswer) → opened (slot_count f) 0 a ≡ slots_opened f a
unfolding opened slots_opened
opened_all f (Err x) = refl
opened_all f (Ok None) = refl
opened_all f (Ok (Some k)) = omega arith

record LeftBy (r : Rack) (o f : List ℕ) (l : SearchResult) : Type 0 where
  leaves : l.rack ≡ (rack_run rack_entry r (sent_calls rack_entry (slots_opened f l.answer) r (sends_frame o f))).rack
  buffer : l.buffer ≡ buffer_after o (rack_run rack_entry r (sent_calls rack_entry (slots_opened f l.answer) r (sends_frame o f))).answers

refused_left : (r : Rack) (o f : List ℕ) (x : Refusal) → LeftBy r o f (search_result (Err x) r o)
unfolding slots_opened sent_calls rack_run buffer_after
refused_left r o f x = record { leaves = refl; buffer = refl }

looked_left : (r : Rack) (o f : List ℕ) → LeftBy r o f (look rack_entry (slot_count f) 0 r (sends_frame o f))
looked_left r o f =
    let c = sends_frame o f in
    let l = look_left rack_entry (slot_count f) 0 r c in
    let e = opened_all f (look rack_entry (slot_count f) 0 r c).answer in
    record {
      leaves = l.leaves ∙ ap (λ (n : ℕ). (rack_run rack_entry r (sent_calls rack_entry n r c)).rack) e;
      buffer = l.buffer ∙ ap (λ (n : ℕ). buffer_after o (rack_run rack_entry r (sent_calls rack_entry n r c)).answers) e;
    }

search_left : (r : Rack) (o f : List ℕ) → LeftBy r o f (search_entry r o f)
search_left r o f = by (judgement (search_rules r o)) refl
  where
    by : (j : Judgement) → judgement (search_rules r o) ≡ j → LeftBy r o f (search_entry r o f)
    by (Ok tt) h = subst (LeftBy r o f) (sym (search_looks r o f h)) (looked_left r o f)
    by (Err x) h = subst (LeftBy r o f) (sym (search_refused r o f x h)) (refused_left r o f x)

-- ---- the theorem
pub searches : Searches rack_entry search_entry
unfolding judgement_in
searches r o f b =
    let l = search_left r o f in
    let a = (search_entry r o f).answer in
    let count : ℕ → ℕ = λ j. tags_in f j r in
    record {
      refused = λ x. (
        λ e. sym (answer_judged r o f) ∙ ap judgement_in e,
        λ h. ap (λ (s : SearchResult). s.answer) (search_refused r o f x h),
      );
      collision = λ h k. (
        λ e. let t = tells_slot count a k e (tells r o f b h) in record { two = t.0; none_before = t.1 },
        λ c. slot_told count a k (tells r o f b h) c.two c.none_before,
      );
      none = λ h. (
        λ e. tells_none count a e (tells r o f b h),
        λ few. none_told count a (tells r o f b h) few,
      );
      rack_left = l.leaves;
      buffer_left = l.buffer;
    }

pub search_refusals_in_order : SearchRefusalsInOrder
unfolding refusal_numbers number
search_refusals_in_order r o = refl
