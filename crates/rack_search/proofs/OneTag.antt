-- In which slot one tag answers, frame and ends-of-frame one by one. Assumes nothing.
use mathlib.Core.Path.{◌≡◌, refl, sym, ◌∙◌, ap}
use mathlib.Core.Bool.{Bool, true, false, not, ◌&&◌, ◌||◌}
use mathlib.Core.List.{List, []}
use Prim.Native.Nat.{ℕ, zero, suc, ◌+◌, ◌-◌, ◌<◌, ◌≤◌}
use Rattle.std.specs.Prelude.{Ok}
use native.Mathlib.Omega.{arith}
use lib.Dec.{leb, ltb, eqb}
use lib.ListN.{length}
use borrow.Author.Tests.{le-ltb, leb-true, eq-eqb, ne_eqb}
use Rattle.parts.specs.Pick.{pick}
use Rattle.parts.proofs.Picks.{pick_case, pick_true, pick_false}
use Rattle.parts.proofs.Bools.{and_left, and_right}
use Rattle.rule_list.specs.RuleList.{first_says}
use Rattle.crc.specs.Crc.{good_frame}
use Rattle.register_types.specs.declared.Afi.{Afi}
use Rattle.bus.specs.Bus.{transfer_at}
use Rattle.tag.specs.declared.Tag.{Tag}
use Rattle.tag.specs.Layout.{reply_bytes}
use Rattle.frame.specs.Fields.{inventory_flag}
use Rattle.inventory.specs.Inventory.{is_malformed, one_slot, is_matched, own_slot, slots_after, answers_now, takes_part}
use Rattle.inventory.proofs.Laws.{slots_most}
use Rattle.reply.specs.declared.RadioSide.{RadioSide}
use Rattle.reply.specs.Reply.{nothing, answer_of}
use Rattle.reply.specs.Outcome.{CommandResult, command_result, radio_side, with_radio}
use Rattle.inventory_reply.specs.Answers.{slots_left, is_heard, inventory_of, end_of_frame_of}
use Rattle.rack_claims.specs.Passed.{radio_of, next_slot_of, is_reply, from_radio, act_of, Device, device, DeviceResult, entry}
use Rattle.signal_table.specs.declared.Signal.{Signal}
use Rattle.signal_table.specs.declared.Signal.TheVariants.{Frame, EndOfFrame}
use Rattle.signal_table.specs.Table.{signal_table, signal_found, is_found, signal_in_range, signal_in, signal_by}
use Rattle.signal_table.proofs.Laws.{frame_known, frame_code}
use Rattle.refusals.specs.declared.Refusal.{Refusal}
use Rattle.refusals.specs.Call.{Call, handed_in}
use Rattle.refusals.specs.Refusals.{argument_rules, unless_refused, Judgement}
use Rattle.refusals.proofs.Laws.{NoneApplies, no_refusal}
use Rattle.rack_claims.proofs.Passed.{step_room, Fits, acted_by, acted, refusal, found, call_is}
use Rattle.rack_search.specs.Search.{opens_sixteen}
use Rattle.rack_search.specs.Claims.{takes_part_now, replies_to, answers_in}

-- ---- the calls act
served : (d : Device) (c : Call) (x : Signal) → Fits d → reply_bytes ≤ length c.buffer → signal_in_range c.code c.value ≡ true → signal_by c.code c.value ≡ x
    → entry d c ≡ acted_by x d c
unfolding NoneApplies unless_refused
served d c x f b s e =
    let none : found c ≡ Ok tt = no_refusal (argument_rules c) (le-ltb (length c.buffer) reply_bytes b, (ap not s, tt)) in
    call_is d c f
    ∙ ap (λ (j : Judgement). unless_refused j (λ (r : Refusal). refusal r d c) (acted d c)) none
    ∙ ap (λ (y : Signal). acted_by y d c) e

pub end_known : signal_in_range 9 0 ≡ true
unfolding signal_in_range is_found signal_found signal_table first_says pick
end_known = refl

end_code : signal_by 9 0 ≡ EndOfFrame
unfolding signal_by signal_in signal_found signal_table first_says pick
end_code = refl

module _ (d : Device) (o : List ℕ) (f : Fits d) (b : reply_bytes ≤ length o) where
  pub frame_served : (s : List ℕ) → entry d (handed_in o 8 0 s) ≡ acted_by Frame d (handed_in o 8 0 s)
  frame_served s = served d (handed_in o 8 0 s) Frame f b frame_known frame_code

  pub end_served : entry d (handed_in o 9 0 []) ≡ acted_by EndOfFrame d (handed_in o 9 0 [])
  end_served = served d (handed_in o 9 0 []) EndOfFrame f b end_known end_code

-- ---- what a radio result says and leaves
replied : CommandResult → Bool
replied r = is_reply (from_radio (answer_of r.reply))

-- in which slot the tag of a count waits: the next end-of-frame opens slot k
unfoldable pub waits_in : ℕ → ℕ → Device → Bool
waits_in k j d =
    let n = d.tag.air.slots in
    takes_part_now d.tag && (not (eqb n 0) && eqb (k + (n - 1)) j)

-- of a count, for a tag that takes part
counts : ℕ → ℕ → ℕ → Bool
counts k j n = not (eqb n 0) && eqb (k + (n - 1)) j

and_assoc : (a b c : Bool) → (a && (b && c)) ≡ (a && b && c)
and_assoc true b c = refl
and_assoc false b c = refl

and_no : (a b : Bool) → b ≡ false → (a && b) ≡ false
and_no true b h = h
and_no false b h = refl

-- ---- numbers
first_count : (n k : ℕ) → eqb n 1 ≡ counts k k n
unfolding counts
first_count zero k = refl
first_count (suc zero) k = let e : k + 0 ≡ k = omega arith in sym (eq-eqb (k + 0) k e)
first_count (suc (suc n)) k =
    ne_eqb (suc (suc n)) 1 (λ e. absurd (omega arith))
    ∙ sym (ap (λ (b : Bool). not b && eqb (k + (suc (suc n) - 1)) k) (ne_eqb (suc (suc n)) 0 (λ e. absurd (omega arith)))
    ∙ ne_eqb (k + (suc (suc n) - 1)) k (λ e. absurd (omega arith)))

later_count : (n k j : ℕ) → k < j → counts (suc k) j (n - 1) ≡ counts k j n
unfolding counts
later_count zero k j h = refl
later_count (suc zero) k j h = sym (ne_eqb (k + (1 - 1)) j (λ e. absurd (omega arith)))
later_count (suc (suc n)) k j h =
    let m : suc (suc n) - 1 ≡ suc n = omega arith in
    let some : eqb (suc n) 0 ≡ false = ne_eqb (suc n) 0 (λ e. absurd (omega arith)) in
    let more : eqb (suc (suc n)) 0 ≡ false = ne_eqb (suc (suc n)) 0 (λ e. absurd (omega arith)) in
    let e : suc k + (suc n - 1) ≡ k + (suc (suc n) - 1) = omega arith in
    ap (counts (suc k) j) m
    ∙ ap (λ (b : Bool). not b && eqb (suc k + (suc n - 1)) j) some
    ∙ ap (λ (i : ℕ). eqb i j) e
    ∙ sym (ap (λ (b : Bool). not b && eqb (k + (suc (suc n) - 1)) j) more)

own_count : (n j : ℕ) → counts 1 (suc j) n ≡ eqb n (suc j)
unfolding counts
own_count zero j = sym (ne_eqb 0 (suc j) (λ e. absurd (omega arith)))
own_count (suc n) j =
    let e : 1 + (suc n - 1) ≡ suc n = omega arith in
    ap (λ (b : Bool). not b && eqb (1 + (suc n - 1)) (suc j)) (ne_eqb (suc n) 0 (λ e. absurd (omega arith)))
    ∙ ap (λ (i : ℕ). eqb i (suc j)) e

-- ---- a radio result of a tag t: nothing, or a count left
abbrev left_of : Tag → CommandResult → Device
left_of t r = device (with_radio r.side t) r.memory

module _ (t : Tag) (m : List ℕ) where
  abbrev own : RadioSide
  own = radio_side t

  -- a result that depends on whether the tag takes part
  abbrev either : Bool → ℕ → Bool → CommandResult
  either part n answers = pick part (slots_left own t.uid n answers m) (command_result nothing own m)

  either_replied : (part : Bool) (n : ℕ) (answers : Bool) → replied (either part n answers) ≡ (part && answers)
  unfolding pick replied is_reply from_radio answer_of
  either_replied true n true = refl
  either_replied true n false = refl
  either_replied false n answers = refl

  -- in which slot the tag then waits
  either_waits : (k j : ℕ) (part : Bool) (n : ℕ) (answers : Bool) → takes_part_now t ≡ part
      → waits_in k j (left_of t (either part n answers)) ≡ (part && counts k j n)
  unfolding pick waits_in counts takes_part
  either_waits k j true n true h = ap (λ (b : Bool). b && (not (eqb n 0) && eqb (k + (n - 1)) j)) h
  either_waits k j true n false h = ap (λ (b : Bool). b && (not (eqb n 0) && eqb (k + (n - 1)) j)) h
  either_waits k j false n answers h = ap (λ (b : Bool). b && counts k j t.air.slots) h

-- ---- a frame for sixteen slots
record Sixteen (f : List ℕ) : Type 0 where
  flag : inventory_flag f ≡ true
  size : not (ltb (length f) 4 || ltb 270 (length f)) ≡ true
  crc : good_frame f ≡ true
  formed : not (is_malformed f) ≡ true

sixteen : (f : List ℕ) → opens_sixteen f ≡ true → Sixteen f
unfolding opens_sixteen
sixteen f h =
    let a = inventory_flag f in
    let b = not (ltb (length f) 4 || ltb 270 (length f)) in
    let c = good_frame f in
    let e = not (is_malformed f) in
    let h₄ = and_left (a && b && c && e) (not (one_slot f)) h in
    let h₃ = and_left (a && b && c) e h₄ in
    let h₂ = and_left (a && b) c h₃ in
    record { flag = and_left a b h₂; size = and_right a b h₂; crc = and_right (a && b) c h₃; formed = and_right (a && b && c) e h₄ }

and_rest : (a b c e : Bool) → b ≡ true → c ≡ true → e ≡ true → (a && b && c && e) ≡ a
and_rest true b c e p q r = rw (p, q, r)
and_rest false b c e p q r = refl

module _ (d : Device) (f : List ℕ) where
  abbrev t : Tag
  t = d.tag

  abbrev afi : Afi
  afi = d.tag.core.registers.afi

  abbrev radioed : CommandResult
  radioed = radio_of (radio_side d.tag) d.tag.uid d.tag.host.vcc (transfer_at d.tag.host.bus) d.tag.host.programming d.memory f

  sixteen_is : Sixteen f → radioed ≡ either t d.memory (takes_part_now t) (slots_after f t.uid afi) (answers_now f t.uid afi)
  unfolding radio_of inventory_of is_heard
  sixteen_is x =
      sym (pick_true _ _ _ (inventory_flag f) x.flag refl)
      ∙ ap (λ (b : Bool). either t d.memory b (slots_after f t.uid afi) (answers_now f t.uid afi))
      (and_rest (takes_part_now t) _ (good_frame f) _ x.size x.crc x.formed)

  -- it is answered in slot 0
  sixteen_opens : Sixteen f → replies_to f d ≡ (takes_part_now t && is_matched f t.uid afi && eqb (own_slot f t.uid) 0)
  unfolding replies_to answers_now replied
  sixteen_opens x =
      ap replied (sixteen_is x)
      ∙ either_replied t d.memory (takes_part_now t) (slots_after f t.uid afi) (answers_now f t.uid afi)
      ∙ and_assoc (takes_part_now t) (is_matched f t.uid afi) (eqb (own_slot f t.uid) 0)

  -- or awaited
  after_count : (part matched : Bool) (n j : ℕ) → (part && counts 1 (suc j) (pick matched n 0)) ≡ (part && matched && eqb n (suc j))
  unfolding pick
  after_count false matched n j = refl
  after_count true true n j = own_count n j
  after_count true false n j = own_count 0 j ∙ ne_eqb 0 (suc j) (λ e. absurd (omega arith))

  sixteen_waits : (j : ℕ) → Sixteen f → waits_in 1 (suc j) (left_of t radioed) ≡ (takes_part_now t && is_matched f t.uid afi && eqb (own_slot f t.uid) (suc j))
  unfolding slots_after
  sixteen_waits j x =
      ap (λ (r : CommandResult). waits_in 1 (suc j) (left_of t r)) (sixteen_is x)
      ∙ either_waits t d.memory 1 (suc j) (takes_part_now t) (slots_after f t.uid afi) (answers_now f t.uid afi) refl
      ∙ after_count (takes_part_now t) (is_matched f t.uid afi) (own_slot f t.uid) j

  -- ---- any frame
  opens : replies_to f d ≡ answers_in f 0 d
  unfolding answers_in
  opens = by (opens_sixteen f) refl
    where
      by : (b : Bool) → opens_sixteen f ≡ b → replies_to f d ≡ pick (opens_sixteen f) (takes_part_now t && is_matched f t.uid afi && eqb (own_slot f t.uid) 0) (eqb 0 0 && replies_to f d)
      by true h = pick_true _ _ _ (opens_sixteen f) h (sixteen_opens (sixteen f h))
      by false h = pick_false _ _ _ (opens_sixteen f) h refl

  waits : (j : ℕ) → opens_sixteen f ≡ true → waits_in 1 (suc j) (left_of t radioed) ≡ answers_in f (suc j) d
  unfolding answers_in
  waits j h = pick_true _ _ _ (opens_sixteen f) h (sixteen_waits j (sixteen f h))

  -- a frame that is not for sixteen slots has slot 0 alone
  pub single : (j : ℕ) → opens_sixteen f ≡ false → answers_in f (suc j) d ≡ false
  unfolding answers_in
  single j h = sym (pick_false _ _ _ (opens_sixteen f) h (sym (ap (λ (b : Bool). b && replies_to f d) (ne_eqb (suc j) 0 (λ e. absurd (omega arith))))))

  -- and one for sixteen has none past 15
  own_most : is_matched f t.uid afi ≡ true → own_slot f t.uid ≤ 15
  unfolding slots_after
  own_most h =
      leb-true _ 15
      (ap (λ (n : ℕ). leb n 15) (pick_true (own_slot f t.uid) 0 _ (is_matched f t.uid afi) h refl) ∙ slots_most f t.uid afi)

  pub past : (j : ℕ) → 16 ≤ j → answers_in f j d ≡ false
  unfolding answers_in
  past j l =
      pick_case (λ (b : Bool). b ≡ false) (opens_sixteen f) _ _
      (λ _. by (is_matched f t.uid afi) refl)
      (λ _. ap (λ (b : Bool). b && replies_to f d) (ne_eqb j 0 (λ e. absurd (omega arith))))
    where
      by : (b : Bool) → is_matched f t.uid afi ≡ b → (takes_part_now t && is_matched f t.uid afi && eqb (own_slot f t.uid) j) ≡ false
      by true h =
          let m = own_most h in
          and_no (takes_part_now t && is_matched f t.uid afi) _ (ne_eqb (own_slot f t.uid) j (λ e. absurd (omega (arith, m))))
      by false h = ap (λ (b : Bool). b && eqb (own_slot f t.uid) j) (and_no (takes_part_now t) _ h)

-- ---- an end-of-frame
module _ (d : Device) where
  abbrev tag : Tag
  tag = d.tag

  abbrev next : CommandResult
  next = next_slot_of (radio_side d.tag) d.tag.uid (transfer_at d.tag.host.bus) d.tag.host.programming d.memory

  next_is : next ≡ either tag d.memory (takes_part_now tag) (tag.air.slots - 1) (eqb tag.air.slots 1)
  unfolding next_slot_of end_of_frame_of
  next_is = refl

  next_turns : (k : ℕ) → replied next ≡ waits_in k k d
  unfolding waits_in counts
  next_turns k =
      ap replied next_is
      ∙ either_replied tag d.memory (takes_part_now tag) (tag.air.slots - 1) (eqb tag.air.slots 1)
      ∙ ap (λ (b : Bool). takes_part_now tag && b) (first_count tag.air.slots k)

  next_later : (k j : ℕ) → k < j → waits_in (suc k) j (left_of tag next) ≡ waits_in k j d
  unfolding waits_in counts
  next_later k j l =
      ap (λ (r : CommandResult). waits_in (suc k) j (left_of tag r)) next_is
      ∙ either_waits tag d.memory (suc k) j (takes_part_now tag) (tag.air.slots - 1) (eqb tag.air.slots 1) refl
      ∙ ap (λ (b : Bool). takes_part_now tag && b) (later_count tag.air.slots k j l)

-- ---- the laws of the entry point
module _ (d : Device) (o : List ℕ) (fit : Fits d) (b : reply_bytes ≤ length o) where
  -- a frame: who answers it, and who waits for a later slot
  pub frame_opens : (f : List ℕ) → is_reply (entry d (handed_in o 8 0 f)).says.answer ≡ answers_in f 0 d
  unfolding act_of replies_to
  frame_opens f = ap (λ (e : DeviceResult). is_reply e.says.answer) (frame_served d o fit b f) ∙ opens d f

  pub frame_waits : (f : List ℕ) (j : ℕ) → opens_sixteen f ≡ true → waits_in 1 (suc j) (entry d (handed_in o 8 0 f)).device ≡ answers_in f (suc j) d
  unfolding act_of
  frame_waits f j h = ap (λ (e : DeviceResult). waits_in 1 (suc j) e.device) (frame_served d o fit b f) ∙ waits d f j h

  -- the end-of-frame that opens slot k
  pub end_turns : (k : ℕ) → is_reply (entry d (handed_in o 9 0 [])).says.answer ≡ waits_in k k d
  unfolding act_of replied
  end_turns k = ap (λ (e : DeviceResult). is_reply e.says.answer) (end_served d o fit b) ∙ next_turns d k

  pub end_later : (k j : ℕ) → k < j → waits_in (suc k) j (entry d (handed_in o 9 0 [])).device ≡ waits_in k j d
  unfolding act_of
  end_later k j l = ap (λ (e : DeviceResult). waits_in (suc k) j e.device) (end_served d o fit b) ∙ next_later d k j l

-- any call keeps the buffer's length
pub room_kept : (d : Device) (c : Call) → length (entry d c).says.buffer ≡ length c.buffer
unfolding entry
room_kept d c = step_room d.tag d.memory c
