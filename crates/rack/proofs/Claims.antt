-- A rack's memory, and one call. Assumes nothing.
use mathlib.Core.Path.{◌≡◌, refl, sym, ap, subst, ◌∙◌}
use mathlib.Core.Bool.{Bool, true, false, not, ◌&&◌, ◌||◌, false≢true}
use mathlib.Core.List.{List, [], ◌∷◌, ◌++◌}
use Prim.Native.Nat.{ℕ, zero, suc, ◌+◌, ◌<◌}
use Rattle.std.specs.Prelude.{Ok}
use native.Mathlib.Omega.{arith}
use native.Mathlib.Nat.{zero-add}
use lib.Dec.{leb, eqb}
use lib.ListN.{length, get_or, take, drop, take-append-drop, length-drop}
use borrow.Author.Tests.{eqb-true, eq-eqb, leb-false}
use Rattle.parts.specs.Pick.{pick}
use Rattle.parts.specs.Bytes.{are_bytes}
use Rattle.parts.proofs.Picks.{pick_map, pick_true, pick_false}
use Rattle.parts.proofs.Bools.{and_left, or_second}
use Rattle.rule_list.specs.RuleList.{any_holds, first_says}
use Rattle.rule_list.proofs.Laws.{says_passes}
use Rattle.std.specs.Prelude.{Option, Some, None}
use Rattle.signal_table.specs.declared.Signal.{Signal}
use Rattle.signal_table.specs.Table.{SignalRow, signal_table, signal_found, is_found, signal_in_range, signal_in, signal_by}
use Rattle.tag.specs.declared.Tag.{Tag}
use Rattle.calls.specs.Passed.{Refusal, NoSuchTag, Judgement, number, judgement, unless_refused}
use Rattle.calls.proofs.Passed.{applies_of, not_refused}
use Rattle.calls.specs.Calls.{CallAnswer, Device, DeviceResult, entry}
use Rattle.rack.specs.Rack.{Rack, rack_of, RackCall, memory_size, memory_sizes, device_at, devices_of, devices, memories_of, to_all, goes_to}
use Rattle.rack.specs.Rules.{rack_rules}
use Rattle.rack.specs.Step.{unreached, turn_of, turns_of, left_by, said_by, RackAnswer, no_reply, together, rack_refused, rack_result, rack_acts, rack_step, rack_entry}
use Rattle.rack.specs.Claims.{is_wire, WireToOne, refusal_numbers, RefusalsInOrder, OwnMemory, PutTogether, RefusedChangesNothing, ServesEach}
use Rattle.rack.proofs.Parts.{number_apart, tags_apart, at_apart}
use Rattle.rack.proofs.Kept.{call_says, call_number, call_leaves}

-- ---- the memory
pub own_memory : OwnMemory
own_memory r i h = at_apart i r.tags r.memory (device_at r 0) h

none_left : (m : List ℕ) → length m ≡ 0 → [] ≡ m
none_left [] h = refl
none_left (x ∷ m) h = absurd (omega arith)

memories_apart : (ts : List Tag) (m : List ℕ) → length m ≡ memory_sizes ts → memories_of (devices_of ts m) ≡ m
unfolding memories_of devices_of memory_sizes
memories_apart [] m h = none_left m h
memories_apart (t ∷ ts) m h =
    ap (λ (l : List ℕ). take (memory_size t) m ++ l) (memories_apart ts (drop (memory_size t) m) (simp length-drop (omega arith)))
    ∙ take-append-drop (memory_size t) m

pub put_together : PutTogether
put_together r h =
    ap (λ (ts : List Tag). rack_of ts (memories_of (devices r))) (tags_apart r.tags r.memory)
    ∙ ap (rack_of r.tags) (memories_apart r.tags r.memory h)

-- ---- the table of signals
-- a row whose signal goes elsewhere
elsewhere : ℕ → SignalRow → Bool
elsewhere value row = to_all row.code && is_wire (row.signal value) || not (to_all row.code) && not (is_wire (row.signal value))

alike : (a b : Bool) → (a && b || not a && not b) ≡ false → a ≡ not b
alike true true h = h
alike true false h = refl
alike false true h = refl
alike false false h = sym h

none_elsewhere : (value : ℕ) → any_holds (elsewhere value) signal_table ≡ false
unfolding any_holds signal_table elsewhere to_all is_wire
none_elsewhere value = refl

pub wire_to_one : WireToOne
unfolding signal_in_range signal_by signal_in is_found signal_found elsewhere
wire_to_one code value =
    says_passes (λ (row : SignalRow). eqb code row.code && leb value row.top) (elsewhere value) (λ (row : SignalRow). Some (row.signal value)) None
    (λ (found : Option Signal). is_found found ≡ true → to_all code ≡ not (is_wire (signal_in found))) signal_table (none_elsewhere value)
    (λ row h k _. ap to_all (eqb-true code row.code (and_left (eqb code row.code) (leb value row.top) h)) ∙ alike (to_all row.code) (is_wire (row.signal value)) k)
    (λ h. absurd (false≢true h))

-- ---- the refusals
pub refusals_in_order : RefusalsInOrder
unfolding refusal_numbers number
refusals_in_order r c = refl

-- ---- a refused call
pub refused_changes_nothing : RefusedChangesNothing
unfolding rack_step unless_refused
refused_changes_nothing step r c x h =
    ap (λ (j : Judgement). unless_refused j (λ (y : Refusal). rack_result (rack_refused y c.handed) r) (rack_acts step r c)) h

-- ---- any other
turn_left : (c : RackCall) (i j : ℕ) (ds : List Device) (z : Device) → i < length ds
    → get_or (left_by (turns_of entry c j ds)) i z ≡ (turn_of entry c (j + i) (get_or ds i z)).device
unfolding turns_of left_by
turn_left c i j [] z h = absurd (omega arith)
turn_left c zero j (d ∷ ds) z h =
    let e : j ≡ j + 0 = omega arith in
    ap (λ (k : ℕ). (turn_of entry c k d).device) e
turn_left c (suc i) j (d ∷ ds) z h =
    let e : suc j + i ≡ j + suc i = omega arith in
    turn_left c i (suc j) ds z (omega arith) ∙ ap (λ (k : ℕ). (turn_of entry c k (get_or ds i z)).device) e

turn_said : (c : RackCall) (i j : ℕ) (ds : List Device) (z : Device) (a : CallAnswer) → i < length ds
    → get_or (said_by (turns_of entry c j ds)) i a ≡ (turn_of entry c (j + i) (get_or ds i z)).says
unfolding turns_of said_by
turn_said c i j [] z a h = absurd (omega arith)
turn_said c zero j (d ∷ ds) z a h =
    let e : j ≡ j + 0 = omega arith in
    ap (λ (k : ℕ). (turn_of entry c k d).says) e
turn_said c (suc i) j (d ∷ ds) z a h =
    let e : suc j + i ≡ j + suc i = omega arith in
    turn_said c i (suc j) ds z a (omega arith) ∙ ap (λ (k : ℕ). (turn_of entry c k (get_or ds i z)).says) e

module _ (r : Rack) (c : RackCall) (b : are_bytes c.handed.frame ≡ true) (h : judgement (rack_rules r c) ≡ Ok tt) where
  abbrev z : Device
  z = device_at r 0

  tag_left : (i : ℕ) → i < length r.tags
      → device_at (rack_entry r c).rack i ≡ pick (goes_to c i) (entry (device_at r i) c.handed).device (device_at r i)
  unfolding turn_of
  tag_left i l =
      let r' = (rack_entry r c).rack in
      sym (at_apart i r'.tags r'.memory z (subst (λ (n : ℕ). i < n) (sym (call_number r c h)) l))
      ∙ ap (λ (ds : List Device). get_or ds i z) (call_leaves r c h b)
      ∙ turn_left c i 0 (devices r) z (subst (λ (n : ℕ). i < n) (sym (number_apart r.tags r.memory)) l)
      ∙ ap (λ (k : ℕ). (turn_of entry c k (get_or (devices r) i z)).device) (zero-add i)
      ∙ ap (λ (d : Device). (turn_of entry c i d).device) (at_apart i r.tags r.memory z l)
      ∙ pick_map (λ (e : DeviceResult). e.device) (goes_to c i) (entry (device_at r i) c.handed) (unreached c.handed (device_at r i))

  in_rack : to_all c.handed.code ≡ false → c.to < length r.tags
  unfolding applies_of first_says number pick
  in_rack a =
      leb-false _ _
      (ap (λ (x : Bool). not x && leb (length r.tags) c.to) (sym a) ∙ not_refused NoSuchTag (rack_rules r c) h)

  named_says : to_all c.handed.code ≡ false → (rack_entry r c).says.says ≡ (entry (device_at r c.to) c.handed).says
  unfolding together turn_of goes_to
  named_says a =
      let i = c.to in
      let l = in_rack a in
      ap (λ (x : RackAnswer). x.says) (call_says r c h)
      ∙ sym (pick_false _ _ _ (to_all c.handed.code) a refl)
      ∙ turn_said c i 0 (devices r) z (no_reply c.handed) (subst (λ (n : ℕ). i < n) (sym (number_apart r.tags r.memory)) l)
      ∙ ap (λ (k : ℕ). (turn_of entry c k (get_or (devices r) i z)).says) (zero-add i)
      ∙ ap (λ (d : Device). (turn_of entry c i d).says) (at_apart i r.tags r.memory z l)
      ∙ ap (λ (e : DeviceResult). e.says) (sym (pick_true (entry (device_at r i) c.handed) (unreached c.handed (device_at r i)) _ (to_all c.handed.code || eqb i i) (or_second (to_all c.handed.code) (eqb i i) (eq-eqb i i refl)) refl))

pub serves_each : ServesEach
serves_each r c b h = record { tags = tag_left r c b h; named = named_says r c b h }
