-- How many tags of a rack answer in a slot, and what its signal leaves to the later slots. Assumes nothing.
use mathlib.Core.Path.{◌≡◌, refl, sym, ◌∙◌, ap}
use mathlib.Core.Bool.{Bool, true, false, not, ◌&&◌, ◌||◌}
use mathlib.Core.List.{List, [], ◌∷◌}
use Prim.Native.Nat.{ℕ, suc, ◌+◌, ◌≤◌}
use Rattle.std.specs.Prelude.{Ok}
use native.Mathlib.Omega.{arith}
use native.Mathlib.Nat.{zero-add}
use lib.Dec.{leb, ltb, eqb}
use lib.ListN.{length}
use borrow.Author.Tests.{le-ltb}
use Rattle.parts.specs.Pick.{pick}
use Rattle.parts.specs.Bytes.{are_bytes}
use Rattle.parts.proofs.Picks.{pick_case, pick_true}
use Rattle.tag.specs.Layout.{reply_bytes}
use Rattle.signal_table.specs.Table.{signal_in_range}
use Rattle.refusals.specs.Refusals.{judgement}
use Rattle.refusals.proofs.Laws.{NoneApplies, no_refusal}
use Rattle.rack_claims.specs.Passed.{is_reply, CallAnswer, Device, DeviceResult, entry, Rack, RackCall, devices, to_all, goes_to, rack_rules, turn_of, turns_of, left_by, said_by, RackAnswer, who_replied, numbers_from, lowest_reply, no_reply, together, rack_entry}
use Rattle.rack_claims.proofs.Passed.{Fits, AllFit, fit_of, call_says, call_leaves}
use Rattle.rack_claims.proofs.WellFormed.{Formed, call_rules, formed_judged}
use Rattle.rack_search.specs.Search.{collides}
use Rattle.rack_search.specs.Claims.{how_many}
use Rattle.rack_search.proofs.OneTag.{room_kept}

-- ---- a call to all
module _ (c : RackCall) (all : to_all c.handed.code ≡ true) where
  turn_is : (i : ℕ) (d : Device) → turn_of entry c i d ≡ entry d c.handed
  unfolding turn_of goes_to
  turn_is i d = sym (pick_true _ _ _ (to_all c.handed.code || eqb i c.to) (ap (λ (b : Bool). b || eqb i c.to) all) refl)

  one_more : (b : Bool) (i n : ℕ) (l : List ℕ) → length l ≡ n → length (pick b (i ∷ l) l) ≡ pick b 1 0 + n
  unfolding pick
  one_more true i n l h = omega (arith, h)
  one_more false i n l h = h ∙ sym (zero-add n)

  module _ (test : Device → Bool) (is : (d : Device) → Fits d → is_reply (entry d c.handed).says.answer ≡ test d) where
    answered_is : (i j : ℕ) (ds : List Device) → AllFit ds → length (numbers_from i (who_replied (said_by (turns_of entry c j ds)))) ≡ how_many test ds
    unfolding numbers_from who_replied said_by turns_of how_many AllFit
    answered_is i j [] f = refl
    answered_is i j (d ∷ ds) f =
        let rest = numbers_from (suc i) (who_replied (said_by (turns_of entry c (suc j) ds))) in
        ap (λ (b : Bool). length (pick b (i ∷ rest) rest)) (ap (λ (e : DeviceResult). is_reply e.says.answer) (turn_is j d) ∙ is d f.0)
        ∙ one_more (test d) i (how_many test ds) rest (answered_is (suc i) (suc j) ds f.1)

  module _ (test after : Device → Bool) (is : (d : Device) → Fits d → after (entry d c.handed).device ≡ test d) where
    left_is : (i : ℕ) (ds : List Device) → AllFit ds → how_many after (left_by (turns_of entry c i ds)) ≡ how_many test ds
    unfolding left_by turns_of how_many AllFit
    left_is i [] f = refl
    left_is i (d ∷ ds) f =
        ap (λ (b : Bool). pick b 1 0 + how_many after (left_by (turns_of entry c (suc i) ds))) (ap (λ (e : DeviceResult). after e.device) (turn_is i d) ∙ is d f.0)
        ∙ ap (λ (n : ℕ). pick (test d) 1 0 + n) (left_is (suc i) ds f.1)

  lowest_room : (q : CallAnswer) (n : ℕ) → length q.buffer ≡ n → ((d : Device) → length (entry d c.handed).says.buffer ≡ n)
      → (i : ℕ) (ds : List Device) → length (lowest_reply q (said_by (turns_of entry c i ds))).buffer ≡ n
  unfolding lowest_reply said_by turns_of
  lowest_room q n h each i [] = h
  lowest_room q n h each i (d ∷ ds) =
      pick_case (λ (a : CallAnswer). length a.buffer ≡ n) (is_reply (turn_of entry c i d).says.answer) (turn_of entry c i d).says (lowest_reply q (said_by (turns_of entry c (suc i) ds)))
      (λ _. ap (λ (e : DeviceResult). length e.says.buffer) (turn_is i d) ∙ each d)
      (λ _. lowest_room q n h each (suc i) ds)

  -- ---- of a rack that does not refuse it
  module _ (r : Rack) (h : judgement (rack_rules r c) ≡ Ok tt) where
    pub collides_is : (test : Device → Bool) → ((d : Device) → Fits d → is_reply (entry d c.handed).says.answer ≡ test d)
        → collides (rack_entry r c) ≡ ltb 1 (how_many test (devices r))
    unfolding together
    collides_is test is =
        ap (λ (a : RackAnswer). ltb 1 (length a.report)) (call_says r c h)
        ∙ ap (ltb 1) (answered_is test is 0 0 (devices r) (fit_of r c h))

    pub counts_next : are_bytes c.handed.frame ≡ true → (test after : Device → Bool) → ((d : Device) → Fits d → after (entry d c.handed).device ≡ test d)
        → how_many after (devices (rack_entry r c).rack) ≡ how_many test (devices r)
    counts_next b test after is =
        ap (how_many after) (call_leaves r c h b) ∙ left_is test after is 0 (devices r) (fit_of r c h)

    pub room_left : length (rack_entry r c).says.says.buffer ≡ length c.handed.buffer
    unfolding together
    room_left =
        ap (λ (a : RackAnswer). length a.says.buffer) (call_says r c h)
        ∙ ap (λ (a : CallAnswer). length a.buffer) (sym (pick_true _ _ _ (to_all c.handed.code) all refl))
        ∙ lowest_room (no_reply c.handed) (length c.handed.buffer) refl (λ d. room_kept d c.handed) 0 (devices r)

  -- a well-formed rack does not refuse it
  pub unrefused : (r : Rack) → Formed r → reply_bytes ≤ length c.handed.buffer → signal_in_range c.handed.code c.handed.value ≡ true → judgement (rack_rules r c) ≡ Ok tt
  unfolding NoneApplies
  unrefused r f b s =
      formed_judged r c f
      ∙ no_refusal (call_rules r c) (le-ltb (length c.handed.buffer) reply_bytes b, (ap not s, (ap (λ (x : Bool). not x && leb (length r.tags) c.to) all, tt)))
