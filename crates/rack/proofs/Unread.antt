-- With a signal that goes to all the tag's number is not read. Assumes nothing.
use mathlib.Core.Path.{◌≡◌, refl, sym, ap, ◌∙◌}
use mathlib.Core.Bool.{Bool, true, not, ◌&&◌, ◌||◌}
use mathlib.Core.List.{List, [], ◌∷◌}
use Prim.Native.Nat.{ℕ, suc}
use lib.Dec.{leb, eqb}
use lib.ListN.{length, get_or}
use Rattle.parts.specs.Pick.{pick}
use Rattle.calls.specs.Passed.{Refusal, NoSuchTag, Judgement, Call, refusal_rule, reply_rule, signal_rule, judgement, unless_refused}
use Rattle.calls.specs.Calls.{CallAnswer, Device, DeviceResult, Step}
use Rattle.rack.specs.Rack.{Rack, rack_call, devices, racked, to_all, goes_to}
use Rattle.rack.specs.Rules.{rack_memory_rule, rack_range_rule, size_rule, uids_rule, rack_rules}
use Rattle.rack.specs.Step.{unreached, turn_of, turns_of, left_by, said_by, RackAnswer, who_replied, numbers_from, lowest_reply, no_reply, rack_answer, together, rack_refused, RackResult, rack_result, gathered, rack_acts, rack_step}
use Rattle.rack.specs.Claims.{NumberUnread}

module _ (step : Step) (r : Rack) (c : Call) (i j : ℕ) (all : to_all c.code ≡ true) where
  -- whatever is read only if the signal goes to one tag
  one_only : (x y : Bool) → (not (to_all c.code) && x) ≡ (not (to_all c.code) && y)
  one_only x y = ap (λ (b : Bool). not b && x) all ∙ sym (ap (λ (b : Bool). not b && y) all)

  judged_unread : judgement (rack_rules r (rack_call c i)) ≡ judgement (rack_rules r (rack_call c j))
  judged_unread =
      ap (λ (b : Bool). judgement (rack_memory_rule r ∷ reply_rule c ∷ signal_rule c ∷ rack_range_rule r ∷ size_rule r ∷ refusal_rule b NoSuchTag ∷ uids_rule r ∷ []))
      (one_only (leb (length r.tags) i) (leb (length r.tags) j))

  reached : (x y : Bool) → (to_all c.code || x) ≡ (to_all c.code || y)
  reached x y = ap (λ (b : Bool). b || x) all ∙ sym (ap (λ (b : Bool). b || y) all)

  turns_unread : (k : ℕ) (ds : List Device) → turns_of step (rack_call c i) k ds ≡ turns_of step (rack_call c j) k ds
  unfolding turns_of turn_of goes_to
  turns_unread k [] = refl
  turns_unread k (d ∷ ds) =
      ap (λ (b : Bool). pick b (step d c) (unreached c d) ∷ turns_of step (rack_call c i) (suc k) ds) (reached (eqb k i) (eqb k j))
      ∙ ap (λ (l : List DeviceResult). turn_of step (rack_call c j) k d ∷ l) (turns_unread (suc k) ds)

  chosen : (x y : CallAnswer) (z : CallAnswer) → pick (to_all c.code) z x ≡ pick (to_all c.code) z y
  unfolding pick
  chosen x y z = ap (λ (b : Bool). pick b z x) all ∙ sym (ap (λ (b : Bool). pick b z y) all)

  together_unread : (answers : List CallAnswer) → together (rack_call c i) answers ≡ together (rack_call c j) answers
  unfolding together
  together_unread answers =
      ap (λ (a : CallAnswer). rack_answer a (numbers_from 0 (who_replied answers)))
      (chosen (get_or answers i (no_reply c)) (get_or answers j (no_reply c)) (lowest_reply (no_reply c) answers))

  acts_unread : rack_acts step r (rack_call c i) ≡ rack_acts step r (rack_call c j)
  unfolding rack_acts
  acts_unread =
      ap (gathered (rack_call c i)) (turns_unread 0 (devices r))
      ∙ ap (λ (a : RackAnswer). rack_result a (racked (left_by (turns_of step (rack_call c j) 0 (devices r)))))
      (together_unread (said_by (turns_of step (rack_call c j) 0 (devices r))))

  unread : rack_step step r (rack_call c i) ≡ rack_step step r (rack_call c j)
  unfolding rack_step
  unread =
      ap (λ (x : Judgement). unless_refused x (λ (y : Refusal). rack_result (rack_refused y c) r) (rack_acts step r (rack_call c i))) judged_unread
      ∙ ap (λ (e : RackResult). unless_refused (judgement (rack_rules r (rack_call c j))) (λ (y : Refusal). rack_result (rack_refused y c) r) e) acts_unread

pub number_unread : NumberUnread
number_unread step r c i j all = unread step r c i j all
